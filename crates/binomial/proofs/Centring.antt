-- The centred value of a residue r is FIPS 204's r mod± q; so a sample, reduced modulo q and centred, is the sample again.
use Rattle.std.specs.Prelude.{◌≡◌, refl, ℤ, pos, nat_abs}
use Rattle.std.proofs.Math.Path.{sym, ap}
use Rattle.std.proofs.Common.{◌∙◌}
use Prim.Native.Nat.{ℕ, suc, ◌+◌, ◌*◌, ◌-◌, ◌<◌, ◌≤◌}
use native.Mathlib.Omega.{arith}
use Rattle.std.proofs.Math.Decide.{dec_le}
use borrow.Author.Tests.{ltb-true, lt-ltb, le-leb, lt-leb}
use Rattle.std.proofs.Math.IntN.{negsuc}
use Rattle.residue.specs.Residue.{reduce, reduceℤ}
use Rattle.residue.proofs.Laws.{reduce-small, neg_small, sub_plus}
use Rattle.residue.proofs.Integers.{minus-below, reduceℤ_lt, reduceℤ-minus}
use Rattle.checks.specs.Checks.{accepted}
use Rattle.checks.specs.Laws.{accepts, accepted-holds, accepted-answer}
use Rattle.binomial.specs.Signed.{centred_value, centre_checks, centred}
use Rattle.binomial.specs.Fips204.{InRange, ModPlusMinus}

module _ (q : ℕ) where
  -- the centred value of r lies in the range and is congruent to r
  value_mod : (r : ℕ) → r < q → ModPlusMinus q (pos r) (centred_value q r)
  unfolding reduceℤ
  value_mod r l = go (dec_le (2 * r) q)
    where
      go : Dec (2 * r ≤ q) → ModPlusMinus q (pos r) (centred_value q r)
      go (yes h) = rw (le-leb (2 * r) q h) (omega arith, refl)
      go (no h) =
          let d : q < 2 * r = omega arith in
          let e : r + (q - q) ≡ r = omega arith in
          rw (lt-leb (2 * r) q d) (rw (minus-below r q l) (omega arith), reduceℤ-minus q (omega arith) r q ∙ sub_plus q r q (omega arith) ∙ ap (reduce q) e)

  -- each integer of the range is the centred value of its residue
  range_value : 0 < q → (z : ℤ) → InRange q z → centred_value q (reduceℤ q z) ≡ z
  unfolding reduceℤ
  range_value p (pos a) l =
      let s : a < q = omega arith in
      let t : 2 * a ≤ q = omega arith in
      rw (reduce-small q s, le-leb (2 * a) q t)
  range_value p (negsuc a) l =
      let t : q < 2 * (q - suc a) = omega arith in
      let e : q - suc (q - suc a) ≡ a = omega arith in
      rw (neg_small q (suc a) (omega arith) (omega arith), lt-leb (2 * (q - suc a)) q t) (minus-below (q - suc a) q (omega arith) ∙ ap negsuc e)

  -- an accepted call answers z exactly where z is r mod± q
  pub centred_mod : (r : ℕ) (z : ℤ) → centred q r ≡ accepted z → ModPlusMinus q (pos r) z
  unfolding centred
  centred_mod r z e =
      let h = accepted-holds (centred_value q r) z (centre_checks q r) e in
      rw (accepted-answer (centred_value q r) z (centre_checks q r) e) (value_mod r (ltb-true r q h.1.0))

  pub mod_centred : 3 ≤ q → (r : ℕ) → r < q → (z : ℤ) → ModPlusMinus q (pos r) z → centred q r ≡ accepted z
  unfolding centred reduceℤ
  mod_centred p r l z h =
      let e : reduceℤ q z ≡ r = h.1 ∙ reduce-small q l in
      accepts (centred_value q r) (centre_checks q r) (le-leb 3 q p, (lt-ltb r q l, tt)) ∙ ap accepted (ap (centred_value q) (sym e) ∙ range_value (omega arith) z h.0)

module _ (k q : ℕ) (h : 2 * k + 1 ≤ q) where
  sample_range : (z : ℤ) → nat_abs z ≤ k → InRange q z
  sample_range (pos a) l = omega arith
  sample_range (negsuc a) l = omega arith

  -- for a sample z from -k to k, at any q of at least 2k + 1
  pub centred-value : (z : ℤ) → nat_abs z ≤ k → centred_value q (reduceℤ q z) ≡ z
  centred-value z l = range_value q (omega arith) z (sample_range z l)

  pub centred-sample : 1 ≤ k → (z : ℤ) → nat_abs z ≤ k → centred q (reduceℤ q z) ≡ accepted z
  unfolding reduceℤ
  centred-sample p z l =
      let s = reduceℤ_lt q (omega arith) z in
      mod_centred q (omega arith) (reduceℤ q z) s z (sample_range z l, sym (reduce-small q s))
