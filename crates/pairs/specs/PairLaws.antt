-- Laws of the numbers of pairs: the recurrence, and that all of them together are 4 to the power k.
use Rattle.std.specs.Prelude.{◌≡◌, refl, eqb, ℤ, pos, nat_abs, ◌-ℤ◌}
use Rattle.std.proofs.Common.{sym, ap₂, ◌∙◌, pow-suc, arith}
use Rattle.std.proofs.Math.Path.{ap}
use Prim.Native.Nat.{ℕ, zero, suc, ◌+◌, ◌*◌, ◌^◌, ◌≤◌, ◌<◌}
use Rattle.std.proofs.Math.Nat as N
use Rattle.std.specs.Int.Count.{ones, ones-ones}
use Rattle.std.proofs.lemmas.Nat.{ones_cat}
use Rattle.std.proofs.Math.IntN.{suc_ℤ, pred_ℤ, pred-suc}
use Rattle.residue.specs.Residue.{total}
use Rattle.residue.proofs.Integers.{minus_le, minus-suc-left, minus-suc_right}
use Rattle.buffers.specs.Positions.{table}
use Rattle.binomial.specs.Signed.{bit_sum, weight, difference_of_weights}
use Rattle.binomial.specs.Weight.{ones_weight, weight_le}
use Rattle.pairs.specs.Pairs.{sameℤ, indicator, sum_to, pairs}
use Rattle.pairs.specs.Sums.{indicator_le, sum_same, sum_const, sum_zero, sum_le, sum_plus, sum_split, sum_swap, sum_pick}
use Rattle.pairs.specs.Integers.{same-suc, same_pred, same_far, position, position_lt, position-same}

-- whether two weights have the difference d
test : ℤ → ℕ → ℕ → ℕ
test d v w = indicator (sameℤ (pos v -ℤ pos w) d)

test-left : (d : ℤ) (v w : ℕ) → test d (suc v) w ≡ test (pred_ℤ d) v w
unfolding test
test-left d v w = rw (minus-suc-left v w) (ap indicator (same-suc (pos v -ℤ pos w) d))

test_right : (d : ℤ) (v w : ℕ) → test d v (suc w) ≡ test (suc_ℤ d) v w
unfolding test
test_right d v w = rw (minus-suc_right v w) (ap indicator (same_pred (pos v -ℤ pos w) d))

-- ---- one bit more

module _ (k : ℕ) (h : k < 16) where
  weight-high : (x : ℕ) → x < 2 ^ k → weight (2 ^ k + x) ≡ suc (weight x)
  weight-high x l =
      let e : 1 * 2 ^ k + x ≡ 2 ^ k + x = omega arith in
      let m : 2 ^ k + x < 2 ^ suc k = omega (arith, pow-suc 2 k) in
      sym (ones_weight (suc k) (2 ^ k + x) h m) ∙ ap ones (sym e) ∙ ones_cat k 1 x l ∙ ap₂ ◌+◌ (ones-ones 1) (ones_weight k x (omega arith) l) ∙ omega arith

  -- a sum over strings, by whether their highest bit is set
  sum-strings : (f : ℕ → ℕ) → sum_to (2 ^ suc k) (λ x. f (weight x)) ≡ sum_to (2 ^ k) (λ x. f (weight x)) + sum_to (2 ^ k) (λ x. f (suc (weight x)))
  sum-strings f =
      let e : 2 ^ suc k ≡ 2 ^ k + 2 ^ k = omega (arith, pow-suc 2 k) in
      rw e (sum_split (2 ^ k) (2 ^ k) (λ x. f (weight x)) ∙ ap (λ (s : ℕ). sum_to (2 ^ k) (λ x. f (weight x)) + s) (sum_same (2 ^ k) _ _ (λ x l. ap f (weight-high x l))))

  -- the strings y that have the difference d with strings of weight v
  abbrev partners : ℤ → ℕ → ℕ
  partners d v = sum_to (2 ^ k) (λ y. test d v (weight y))

  longer_right : (d : ℤ) (v : ℕ) → sum_to (2 ^ suc k) (λ y. test d v (weight y)) ≡ partners d v + partners (suc_ℤ d) v
  longer_right d v = sum-strings (test d v) ∙ ap (λ (s : ℕ). partners d v + s) (sum_same (2 ^ k) _ _ (λ y l. test_right d v (weight y)))

  longer_left : (d : ℤ) → sum_to (2 ^ suc k) (λ x. partners d (weight x)) ≡ pairs k d + pairs k (pred_ℤ d)
  unfolding pairs test
  longer_left d = sum-strings (partners d) ∙ ap (λ (s : ℕ). pairs k d + s) (sum_same (2 ^ k) _ _ (λ x m. sum_same (2 ^ k) _ _ (λ y l. test-left d (weight x) (weight y))))

  pub pairs_next : (d : ℤ) → pairs (suc k) d ≡ pairs k (pred_ℤ d) + 2 * pairs k d + pairs k (suc_ℤ d)
  unfolding pairs test
  pairs_next d =
      sum_same (2 ^ suc k) _ _ (λ x l. longer_right d (weight x)) ∙ sum_plus (2 ^ suc k) (λ x. partners d (weight x)) (λ x. partners (suc_ℤ d) (weight x))
      ∙ omega (arith, longer_left d, longer_left (suc_ℤ d), ap (pairs k) (pred-suc d))

-- no bits: one pair, of equal weights
pub pairs-none : (d : ℤ) → pairs 0 d ≡ indicator (sameℤ (pos 0) d)
unfolding pairs total table bit_sum
pairs-none d = omega arith

-- ---- all pairs

pub square_four : (k : ℕ) → 2 ^ k * 2 ^ k ≡ 4 ^ k
square_four zero = refl
square_four (suc k) = rw (pow-suc 2 k, pow-suc 4 k) (omega (arith, square_four k))

pub pairs_le : (k : ℕ) (d : ℤ) → pairs k d ≤ 4 ^ k
unfolding pairs
pairs_le k d =
    rw (← square_four k)
    (sum_le (2 ^ k) (2 ^ k) _ (λ x l. omega (arith, sum_le (2 ^ k) 1 (λ y. indicator (sameℤ (difference_of_weights x y) d)) (λ y m. indicator_le (sameℤ (difference_of_weights x y) d)))))

module _ (k : ℕ) (l : k ≤ 16) where
  difference_le : (x y : ℕ) → x < 2 ^ k → y < 2 ^ k → nat_abs (difference_of_weights x y) ≤ k
  difference_le x y h m = minus_le k (weight x) (weight y) (weight_le k x l h) (weight_le k y l m)

  -- a pair has one of the differences from -k to k
  pair_once : (x y : ℕ) → x < 2 ^ k → y < 2 ^ k → sum_to (2 * k + 1) (λ i. indicator (sameℤ (difference_of_weights x y) (pos i -ℤ pos k))) ≡ 1
  pair_once x y h m =
      let z : ℤ = difference_of_weights x y in
      let n = difference_le x y h m in
      sum_same (2 * k + 1) _ (λ i. indicator (eqb (position k z) i) * 1) (λ i o. ap indicator (position-same k z n i) ∙ omega arith)
      ∙ sum_pick (2 * k + 1) (position k z) (λ i. 1) (position_lt k z n)

  pub pairs-all : sum_to (2 * k + 1) (λ i. pairs k (pos i -ℤ pos k)) ≡ 4 ^ k
  unfolding pairs
  pairs-all =
      sum_swap (2 * k + 1) (2 ^ k) _
      ∙ sum_same (2 ^ k) _ (λ x. 2 ^ k) (λ x h. sum_swap (2 * k + 1) (2 ^ k) _ ∙ sum_same (2 ^ k) _ (λ y. 1) (λ y m. pair_once x y h m) ∙ sum_const (2 ^ k) 1 ∙ omega arith)
      ∙ sum_const (2 ^ k) (2 ^ k) ∙ square_four k

  -- none has a greater one
  pub pairs_outside : (d : ℤ) → k < nat_abs d → pairs k d ≡ 0
  unfolding pairs
  pairs_outside d g = sum_zero (2 ^ k) _ (λ x h. sum_zero (2 ^ k) _ (λ y m. ap indicator (same_far (difference_of_weights x y) d (omega (arith, difference_le x y h m)))))

  pub power_lt : 4 ^ k < 10 ^ 10
  power_lt = omega (arith, N.pow-le-pow_right {n = 4} (omega arith) l)
