-- A binary sum by doubling, from its highest term down (Horner's rule).
use Rattle.std.specs.Prelude.{◌≡◌, refl}
use Rattle.std.proofs.Math.Path.{sym, ap, ap₂, fun_ext}
use Rattle.std.proofs.Common.{◌∙◌}
use Prim.Native.Nat.{ℕ, zero, suc, ◌+◌, ◌-◌, ◌*◌, ◌%◌, ◌^◌, ◌<◌}
use Rattle.std.proofs.Math.Nat.{pow-suc}
use native.Mathlib.Omega.{arith}
use Rattle.residue.specs.Residue.{reduce, add, mul, sum}
use Rattle.residue.proofs.Laws.{reduce_zero, reduce_plus, add_comm, add-reduce-left, add-reduce_right, one-mul, mul_times}
use Rattle.residue.proofs.Sum.{sum_cong, sum-mul, sum_lt}
use Rattle.buffers.specs.Positions.{after}
use Rattle.buffers.specs.PositionLaws.{after_zero}
use Rattle.checks.specs.Width.{bit}
use Rattle.checks.specs.FromBits.{from_bits, from_number}
use Rattle.values.specs.Values.{binary_sum}
use Rattle.values.specs.Doubling.{doubled}

module _ (q : ℕ) where
  twice : (s : ℕ) → mul q 2 s ≡ add q s s
  unfolding add mul
  twice s = ap (λ (z : ℕ). z % q) (omega arith)

  pub binary_lt : 0 < q → (k : ℕ) (f : ℕ → ℕ) → binary_sum q k f < q
  unfolding binary_sum
  binary_lt positive k f = sum_lt q positive k _

  binary_next : (k : ℕ) (f : ℕ → ℕ) → binary_sum q (suc k) f ≡ doubled q (binary_sum q k (λ t. f (suc t))) (f 0)
  unfolding binary_sum sum
  binary_next k f =
      ap₂ (add q) (one-mul q (f 0)) (sum_cong q k _ _ (λ t l. ap (λ (z : ℕ). mul q z (f (suc t))) (power t) ∙ mul_times q 2 (2 ^ t) (f (suc t))) ∙ sum-mul q 2 k (λ t. mul q (2 ^ t) (f (suc t))) ∙ twice _)
      ∙ add-reduce-left q (f 0) _ ∙ add_comm q (f 0) _
    where
      power : (t : ℕ) → 2 ^ suc t ≡ 2 * 2 ^ t
      power t = omega (arith, pow-suc 2 t)

  -- of bits, it is their number
  binary_from : (k : ℕ) (f : ℕ → ℕ) → binary_sum q k f ≡ reduce q (from_bits k f)
  binary_from zero f = unfold binary_sum sum from_bits in sym (reduce_zero q)
  binary_from (suc k) f =
      let a : ℕ = from_bits k (λ t. f (suc t)) in
      let e : a + a + f 0 ≡ f 0 + 2 * a = omega arith in
      binary_next k f ∙ ap (λ (s : ℕ). doubled q s (f 0)) (binary_from k (λ t. f (suc t)))
      ∙ rw (add-reduce-left, add-reduce_right, ← reduce_plus q a a, add-reduce-left, ← reduce_plus q (a + a) (f 0), e) (unfold from_bits in refl)

  pub binary_number : (k x : ℕ) → binary_sum q k (bit x) ≡ reduce q (x % 2 ^ k)
  binary_number k x = binary_from k (bit x) ∙ ap (reduce q) (from_number k x)

  -- the terms from t on, of k in all: what doubling has made of them
  module _ (k : ℕ) (f : ℕ → ℕ) where
    abbrev pub upper : ℕ → ℕ
    upper t = binary_sum q (k - t) (after t f)

    pub upper-none : upper k ≡ 0
    upper-none =
        let z : k - k ≡ 0 = omega arith in
        rw z (unfold binary_sum sum in refl)

    pub upper-next : (t : ℕ) → t < k → doubled q (upper (t + 1)) (f t) ≡ upper t
    upper-next t h =
        let e : k - t ≡ suc (k - (t + 1)) = omega arith in
        let z : t + 0 ≡ t = omega arith in
        let s : (λ (i : ℕ). f (t + suc i)) ≡ after (t + 1) f = fun_ext (λ i. ap f (omega arith)) in
        sym (rw e (binary_next (k - (t + 1)) (after t f) ∙ rw (s, z)))

    pub upper-all : upper 0 ≡ binary_sum q k f
    upper-all =
        let z : k - 0 ≡ k = omega arith in
        rw (z, after_zero f)
