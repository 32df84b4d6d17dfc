-- Where document 02's A.9 changed what is answered for a residue: exactly at 2r = q.
use Rattle.std.specs.Prelude.{◌≡◌, Bool, cond, ◌≢◌, ℕ, suc, ◌*◌, ◌-◌, ◌≤◌, ltb, ℤ, ◌-ℤ◌}
use Rattle.std.proofs.Math.Path.{sym, ap}
use Rattle.std.proofs.Common.{◌∙◌, arith}
use Rattle.std.proofs.Math.Decide.{dec_le}
use borrow.Author.Tests.{lt-ltb, le-ltb, le-leb, lt-leb}
use Rattle.std.proofs.Math.IntN.{pos, pos-ne-negsuc}
use Rattle.residue.proofs.Integers.{minus-below}
use Rattle.checks.specs.Checks.{Verdict, accepted, verdict}
use Rattle.checks.specs.Laws.{leb_same, accepts, fail, same_answer}
use Rattle.binomial.specs.Signed.{centre_checks, centred}

module _ (q r : ℕ) where
  -- document 01's answer: r where 2r is below q, else r - q
  abbrev pub before : Verdict ℤ
  before = verdict (centre_checks q r) (cond (ltb (2 * r) q) (pos r) (pos r -ℤ pos q))

  -- the half of a modulus that check 3 lets pass
  abbrev pub Half : Type 0
  Half = (3 ≤ q) × (2 * r ≡ q)

  pub same_elsewhere : (Half → ⊥) → before ≡ centred q r
  unfolding centred
  same_elsewhere n = go (dec_le 3 q)
    where
      go : Dec (3 ≤ q) → before ≡ centred q r
      go (yes h) =
          let m : 2 * r ≡ q → ⊥ = λ e. n (h, e) in
          ap (λ (t : Bool). verdict (centre_checks q r) (cond t (pos r) (pos r -ℤ pos q))) (leb_same (suc (2 * r)) q (2 * r) q (λ l. omega arith) (λ l. omega arith))
      go (no h) =
          let l = lt-leb 3 q (omega arith) in
          fail _ _ _ l ∙ sym (fail _ _ _ l)

  module _ (h : Half) where
    half_answer : (z : ℤ) → verdict (centre_checks q r) z ≡ accepted z
    half_answer z = accepts z (centre_checks q r) (le-leb 3 q h.0, (lt-ltb r q (omega (arith, h)), tt))

    pub half_before : before ≡ accepted (pos r -ℤ pos q)
    half_before = half_answer _ ∙ ap accepted (rw (le-ltb (2 * r) q (omega (arith, h))))

    pub half_now : centred q r ≡ accepted (pos r)
    unfolding centred
    half_now = half_answer _ ∙ ap accepted (rw (le-leb (2 * r) q (omega (arith, h))))

    pub half_differs : before ≢ centred q r
    half_differs e = pos-ne-negsuc r (q - suc r) (same_answer (sym half_now ∙ sym e ∙ half_before) ∙ minus-below r q (omega (arith, h)))
