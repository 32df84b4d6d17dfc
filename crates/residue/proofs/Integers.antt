-- Differences of two numbers as integers, sums and multiples of them, and integers modulo q.
use Rattle.std.specs.Prelude.{◌≡◌, ℕ, zero, suc, ◌+◌, ◌-◌, ◌*◌, ◌<◌, ◌≤◌, ℤ, pos, negsuc, nat_abs, neg_ℤ, ◌+ℤ◌, ◌-ℤ◌, ◌*ℤ◌}
use Rattle.std.proofs.Common.{sym, ap, ap₂, ◌∙◌, arith, lt-ltb, le-ltb}
use Rattle.std.proofs.Math.Nat as N
use Rattle.std.proofs.Math.Decide.{dec_le}
use Rattle.std.proofs.Math.IntN.{suc_ℤ, pred_ℤ, +ℤ_assoc, +ℤ_comm, +ℤ-pred_ℤ, suc_ℤ-+ℤ, neg_ℤ-+ℤ, neg_ℤ-suc_ℤ, zero-*ℤ, suc_ℤ-*ℤ}
use Rattle.residue.specs.Residue.{reduce, neg, sub, reduceℤ}
use Rattle.residue.proofs.Laws.{reduce_plus, reduce-neg, reduce_lt, add-reduce-left, neg-reduce, add_assoc, zero_add, add-neg, neg-add, add_sub_cancel}

pub minus_zero : (a : ℕ) → pos a -ℤ pos 0 ≡ pos a
minus_zero a = ap pos (N.add-zero a)

pub minus-above : (a b : ℕ) → b ≤ a → pos a -ℤ pos b ≡ pos (a - b)
minus-above a zero h = ap pos (omega arith)
minus-above a (suc b) h = simp (le-ltb a (suc b) h)

pub minus-below : (a b : ℕ) → a < b → pos a -ℤ pos b ≡ negsuc (b - suc a)
minus-below a zero h = absurd (omega arith)
minus-below a (suc b) h = simp (lt-ltb a (suc b) h)

-- the difference of two numbers of at most k
pub minus_le : (k a b : ℕ) → a ≤ k → b ≤ k → nat_abs (pos a -ℤ pos b) ≤ k
minus_le k a b h l = go (dec_le b a)
  where
    go : Dec (b ≤ a) → nat_abs (pos a -ℤ pos b) ≤ k
    go (yes m) = rw (minus-above a b m) (omega arith)
    go (no m) =
        let g : a < b = omega arith in
        rw (minus-below a b g) (omega arith)

pub minus-suc-left : (a b : ℕ) → pos (suc a) -ℤ pos b ≡ suc_ℤ (pos a -ℤ pos b)
minus-suc-left a b = suc_ℤ-+ℤ (pos a) (neg_ℤ (pos b))

pub minus-suc_right : (a b : ℕ) → pos a -ℤ pos (suc b) ≡ pred_ℤ (pos a -ℤ pos b)
minus-suc_right a b = ap (λ (z : ℤ). pos a +ℤ z) (neg_ℤ-suc_ℤ (pos b)) ∙ +ℤ-pred_ℤ (pos a) (neg_ℤ (pos b))

-- ---- sums, multiples, magnitudes

interchange : (a b c d : ℤ) → (a +ℤ b) +ℤ (c +ℤ d) ≡ (a +ℤ c) +ℤ (b +ℤ d)
interchange a b c d =
    +ℤ_assoc a b (c +ℤ d)
    ∙ ap (λ (z : ℤ). a +ℤ z) (sym (+ℤ_assoc b c d) ∙ ap (λ (z : ℤ). z +ℤ d) (+ℤ_comm b c) ∙ +ℤ_assoc c b d)
    ∙ sym (+ℤ_assoc a c (b +ℤ d))

pub minus_plus : (a b c d : ℕ) → (pos a -ℤ pos b) +ℤ (pos c -ℤ pos d) ≡ pos (a + c) -ℤ pos (b + d)
minus_plus a b c d = interchange (pos a) (neg_ℤ (pos b)) (pos c) (neg_ℤ (pos d)) ∙ ap (λ (z : ℤ). pos (a + c) +ℤ z) (sym (neg_ℤ-+ℤ (pos b) (pos d)))

pub minus_times : (n a b : ℕ) → pos n *ℤ (pos a -ℤ pos b) ≡ pos (n * a) -ℤ pos (n * b)
minus_times zero a b = simp N.zero-mul (zero-*ℤ (pos a -ℤ pos b))
minus_times (suc n) a b =
    let e : n * a + a ≡ suc n * a = omega arith in
    let f : n * b + b ≡ suc n * b = omega arith in
    suc_ℤ-*ℤ (pos n) (pos a -ℤ pos b) ∙ ap (λ (z : ℤ). z +ℤ (pos a -ℤ pos b)) (minus_times n a b) ∙ minus_plus (n * a) (n * b) a b ∙ ap₂ (λ (v w : ℕ). pos v -ℤ pos w) e f

nat_abs_minus : (a b : ℕ) → nat_abs (pos a -ℤ pos b) ≤ a + b
nat_abs_minus a b = minus_le (a + b) a b (omega arith) (omega arith)

pub nat_abs_plus : (a b : ℤ) → nat_abs (a +ℤ b) ≤ nat_abs a + nat_abs b
nat_abs_plus (pos a) (pos b) = omega arith
nat_abs_plus (pos a) (negsuc b) = nat_abs_minus a (suc b)
nat_abs_plus (negsuc a) (pos b) = omega (arith, nat_abs_minus b (suc a))
nat_abs_plus (negsuc a) (negsuc b) = omega arith

-- ---- integers modulo q, and the difference of two numbers

pub reduceℤ_lt : (q : ℕ) → 0 < q → (z : ℤ) → reduceℤ q z < q
unfolding reduceℤ
reduceℤ_lt q h (pos a) = reduce_lt q h a
reduceℤ_lt q h (negsuc a) = rw (← reduce-neg q (suc a)) (reduce_lt q h (neg q (suc a)))

pub reduceℤ-minus : (q : ℕ) → 0 < q → (a b : ℕ) → reduceℤ q (pos a -ℤ pos b) ≡ sub q a b
unfolding reduceℤ
reduceℤ-minus q h a b = go (dec_le b a)
  where
    above : (d : ℕ) → reduce q d ≡ sub q (d + b) b
    above d = sym (rw (← add-reduce-left q (d + b), reduce_plus) (add_sub_cancel q h d b))

    below : (d : ℕ) → neg q d ≡ sub q a (a + d)
    below d = sym (rw (← neg-reduce q (a + d), reduce_plus, neg-add q h, ← add_assoc, add-neg q h, zero_add) (reduce-neg q d))

    go : Dec (b ≤ a) → reduceℤ q (pos a -ℤ pos b) ≡ sub q a b
    go (yes l) =
        let e : a - b + b ≡ a = omega arith in
        rw (minus-above a b l) (above (a - b) ∙ ap (λ (x : ℕ). sub q x b) e)
    go (no l) =
        let m : a < b = omega arith in
        let e : a + suc (b - suc a) ≡ b = omega arith in
        rw (minus-below a b m) (below (suc (b - suc a)) ∙ ap (sub q a) e)
