-- Laws of the test that two integers are the same, and integers by their position among those from -k on.
use Rattle.std.specs.Prelude.{◌≡◌, refl, Bool, true, false, ℕ, suc, ◌+◌, ◌-◌, ◌*◌, ◌≤◌, ◌<◌, eqb, ℤ, pos, negsuc, nat_abs, ◌+ℤ◌, ◌-ℤ◌}
use Rattle.std.proofs.Common.{sym, ap, ◌∙◌, arith, eqb-true, eq-eqb}
use Rattle.std.proofs.lemmas.Bool.{false≢true}
use Rattle.std.proofs.Math.IntN.{suc_ℤ, pred_ℤ, suc-pred, pred-suc, -ℤ-+ℤ_cancel}
use Rattle.residue.proofs.Integers.{minus-above, minus-below}
use Rattle.pairs.specs.Pairs.{sameℤ}

-- ---- the test holds where two integers are equal, and only there

pub same_equal : (a b : ℤ) → sameℤ a b ≡ true → a ≡ b
same_equal (pos a) (pos b) e = ap pos (eqb-true a b e)
same_equal (pos a) (negsuc b) e = absurd (false≢true e)
same_equal (negsuc a) (pos b) e = absurd (false≢true e)
same_equal (negsuc a) (negsuc b) e = ap negsuc (eqb-true a b e)

same_self : (a : ℤ) → sameℤ a a ≡ true
same_self (pos a) = eq-eqb a a refl
same_self (negsuc a) = eq-eqb a a refl

pub equal_same : (a b : ℤ) → a ≡ b → sameℤ a b ≡ true
equal_same a b e = rw e (same_self b)

-- ---- so that two tests have one answer where each implies the other

agreed : (p q : Bool) → (p ≡ true → q ≡ true) → (q ≡ true → p ≡ true) → p ≡ q
agreed true q f g = sym (f refl)
agreed false true f g = g refl
agreed false false f g = refl

same_iff : (a b c d : ℤ) → (a ≡ b → c ≡ d) → (c ≡ d → a ≡ b) → sameℤ a b ≡ sameℤ c d
same_iff a b c d f g = agreed _ _ (λ e. equal_same c d (f (same_equal a b e))) (λ e. equal_same a b (g (same_equal c d e)))

pub same-suc : (a b : ℤ) → sameℤ (suc_ℤ a) b ≡ sameℤ a (pred_ℤ b)
same-suc a b = same_iff (suc_ℤ a) b a (pred_ℤ b) (λ e. sym (pred-suc a) ∙ ap pred_ℤ e) (λ e. ap suc_ℤ e ∙ suc-pred b)

pub same_pred : (a b : ℤ) → sameℤ (pred_ℤ a) b ≡ sameℤ a (suc_ℤ b)
same_pred a b = same_iff (pred_ℤ a) b a (suc_ℤ b) (λ e. sym (suc-pred a) ∙ ap suc_ℤ e) (λ e. ap pred_ℤ e ∙ pred-suc b)

pub same_far : (a b : ℤ) → nat_abs a < nat_abs b → sameℤ a b ≡ false
same_far a b h = agreed _ _ (λ e. absurd (omega (arith, ap nat_abs (same_equal a b e)))) (λ e. absurd (false≢true e))

-- ---- positions

-- the position of an integer among -k, -k + 1, ..
abbrev pub position : ℕ → ℤ → ℕ
position k (pos a) = k + a
position k (negsuc a) = k - suc a

pub position_lt : (k : ℕ) (z : ℤ) → nat_abs z ≤ k → position k z < 2 * k + 1
position_lt k (pos a) h = omega arith
position_lt k (negsuc a) h = omega arith

pub position-minus : (k : ℕ) (z : ℤ) → nat_abs z ≤ k → pos (position k z) -ℤ pos k ≡ z
position-minus k (pos a) h = minus-above (k + a) k (omega arith) ∙ ap pos (omega arith)
position-minus k (negsuc a) h = minus-below (k - suc a) k (omega arith) ∙ ap negsuc (omega arith)

minus_cancel : (a b k : ℕ) → pos a -ℤ pos k ≡ pos b -ℤ pos k → a ≡ b
minus_cancel a b k e = ap nat_abs (sym (-ℤ-+ℤ_cancel (pos a) (pos k)) ∙ ap (λ (z : ℤ). z +ℤ pos k) e ∙ -ℤ-+ℤ_cancel (pos b) (pos k))

pub position-same : (k : ℕ) (z : ℤ) → nat_abs z ≤ k → (i : ℕ) → sameℤ z (pos i -ℤ pos k) ≡ eqb (position k z) i
position-same k z h i =
    let v = position-minus k z h in
    agreed _ _
    (λ e. eq-eqb (position k z) i (minus_cancel (position k z) i k (v ∙ same_equal z (pos i -ℤ pos k) e)))
    (λ e. equal_same z (pos i -ℤ pos k) (sym v ∙ ap (λ (p : ℕ). pos p -ℤ pos k) (eqb-true (position k z) i e)))
