-- Laws of finite sums modulo q, over an index and over a list.
use Rattle.std.specs.Prelude.{◌≡◌, ◌≢◌, length, get_or, take, drop}
use Rattle.std.proofs.Math.Path.{refl, sym, ap}
use Rattle.std.proofs.Common.{◌∙◌, add-one, arith, length-append, length-take, length-drop, get_or-take, get_or-drop, get_or-append-add}
use mathlib.Core.List.{List, [], ◌∷◌, ◌++◌}
use Prim.Native.Nat.{ℕ, zero, suc, ◌+◌, ◌-◌, ◌<◌, suc-le-suc}
use Rattle.std.proofs.Math.Nat as N
use Rattle.std.proofs.Math.Decide.{dec_lt}
use Rattle.std.proofs.Math.ListN.{get_or-append}
use Rattle.residue.specs.Residue.{reduce, add, mul, neg, sum, total, EachBelow}
use Rattle.residue.proofs.Laws.{reduce_zero, reduce_lt, reduce-reduce, reduce_plus, reduce-add, add-reduce-left, add-reduce_right, add_comm, add_assoc, add_left_comm, zero_add, add_zero, mul-add, mul_zero, neg_zero, neg-add}

-- ---- a list in two parts

module _ (q h : ℕ) (l : List ℕ) where
  pub each-below-take : EachBelow q l → EachBelow q (take h l)
  each-below-take r i m = rw (get_or-take h l i 0 (omega (arith, length-take h l))) (r i (omega (arith, length-take h l)))

  pub each-below-drop : EachBelow q l → EachBelow q (drop h l)
  each-below-drop r i m = rw (get_or-drop h l i 0) (r (h + i) (omega (arith, length-drop h l)))

pub each-below-append : (q : ℕ) (k l : List ℕ) → EachBelow q k → EachBelow q l → EachBelow q (k ++ l)
each-below-append q k l a b i m = go (dec_lt i (length k))
  where
    go : Dec (i < length k) → get_or (k ++ l) i 0 < q
    go (yes h) = rw (get_or-append k l 0 i h) (a i h)
    go (no h) =
        let e : i ≡ length k + (i - length k) = omega arith in
        rw (ap (λ (j : ℕ). get_or (k ++ l) j 0) e ∙ get_or-append-add k l (i - length k) 0) (b (i - length k) (omega (arith, length-append k l)))

-- ---- over an index

module _ (q : ℕ) where
  pub sum_cong : (n : ℕ) (f g : ℕ → ℕ) → ((i : ℕ) → i < n → f i ≡ g i) → sum q n f ≡ sum q n g
  unfolding sum
  sum_cong zero f g h = refl
  sum_cong (suc n) f g h = rw (h zero (omega arith), sum_cong n (λ i. f (suc i)) (λ i. g (suc i)) (λ i l. h (suc i) (suc-le-suc l)))

  pub reduce-sum : (n : ℕ) (f : ℕ → ℕ) → reduce q (sum q n f) ≡ sum q n f
  unfolding sum
  reduce-sum zero f = reduce_zero q
  reduce-sum (suc n) f = reduce-add q (f zero) (sum q n (λ i. f (suc i)))

  pub sum-reduce : (n : ℕ) (f : ℕ → ℕ) → sum q n (λ i. reduce q (f i)) ≡ sum q n f
  unfolding sum
  sum-reduce zero f = refl
  sum-reduce (suc n) f = rw (sum-reduce n (λ i. f (suc i))) (add-reduce-left q (f zero) (sum q n (λ i. f (suc i))))

  -- the sum of a list, reduced, is the sum over its positions
  pub sum_list : (l : List ℕ) → sum q (length l) (λ i. get_or l i 0) ≡ reduce q (total l)
  unfolding sum total
  sum_list [] = sym (reduce_zero q)
  sum_list (a ∷ l) = rw (sum_list l, add-reduce_right) (sym (reduce_plus q a (total l)))

  pub sum-last : (n : ℕ) (f : ℕ → ℕ) → sum q (suc n) f ≡ add q (sum q n f) (f n)
  unfolding sum
  sum-last zero f = add_comm q (f zero) 0
  sum-last (suc n) f = ap (add q (f zero)) (sum-last n (λ i. f (suc i))) ∙ sym (add_assoc q (f zero) (sum q n (λ i. f (suc i))) (f (suc n)))

  -- a sum that is made term by term
  module _ (f : ℕ → ℕ) where
    pub running_none : 0 ≡ sum q 0 f
    unfolding sum
    running_none = refl

    pub running_next : (t s v : ℕ) → s ≡ sum q t f → v ≡ add q s (f t) → v ≡ sum q (t + 1) f
    running_next t s v e d = d ∙ ap (λ (z : ℕ). add q z (f t)) e ∙ sym (sum-last t f) ∙ ap (λ (m : ℕ). sum q m f) (sym (add-one t))

    pub running_all : (t n s : ℕ) → t ≡ n → s ≡ sum q t f → s ≡ sum q n f
    running_all t n s h e = e ∙ ap (λ (m : ℕ). sum q m f) h

  pub sum_zero : (n : ℕ) → sum q n (λ i. 0) ≡ 0
  unfolding sum
  sum_zero zero = refl
  sum_zero (suc n) = rw (sum_zero n) (zero_add q 0 ∙ reduce_zero q)

  -- all terms but one are 0
  pub sum_one : (n i : ℕ) (f : ℕ → ℕ) → i < n → ((j : ℕ) → j < n → j ≢ i → f j ≡ 0) → sum q n f ≡ reduce q (f i)
  unfolding sum
  sum_one zero i f h z = absurd (N.not-suc-le-zero h)
  sum_one (suc n) zero f h z =
      rw (sum_cong n (λ j. f (suc j)) (λ j. 0) (λ j l. z (suc j) (suc-le-suc l) (N.suc-ne-zero j)), sum_zero n) (add_zero q (f zero))
  sum_one (suc n) (suc i) f h z =
      rw (z zero (omega arith) (λ e. N.suc-ne-zero i (sym e)), sum_one n i (λ j. f (suc j)) (N.le_of_suc-le-suc h) (λ j l m. z (suc j) (suc-le-suc l) (λ e. m (N.suc_inj e))))
      (zero_add q (reduce q (f (suc i))) ∙ reduce-reduce q (f (suc i)))

  pub sum-add : (n : ℕ) (f g : ℕ → ℕ) → sum q n (λ i. add q (f i) (g i)) ≡ add q (sum q n f) (sum q n g)
  unfolding sum
  sum-add zero f g = sym (zero_add q 0 ∙ reduce_zero q)
  sum-add (suc n) f g = rw (sum-add n (λ i. f (suc i)) (λ i. g (suc i))) (simp (add_assoc, add_left_comm))

  pub sum-mul : (c n : ℕ) (f : ℕ → ℕ) → sum q n (λ i. mul q c (f i)) ≡ mul q c (sum q n f)
  unfolding sum
  sum-mul c zero f = sym (mul_zero q c)
  sum-mul c (suc n) f = rw (sum-mul c n (λ i. f (suc i))) (sym (mul-add q c (f zero) (sum q n (λ i. f (suc i)))))

  pub sum_swap : (n k : ℕ) (f : ℕ → ℕ → ℕ) → sum q n (λ i. sum q k (λ t. f t i)) ≡ sum q k (λ t. sum q n (f t))
  unfolding sum
  sum_swap n zero f = sum_zero n
  sum_swap n (suc k) f = sum-add n (f zero) (λ i. sum q k (λ t. f (suc t) i)) ∙ ap (add q (sum q n (f zero))) (sum_swap n k (λ t. f (suc t)))

  module _ (pos : 0 < q) where
    pub sum_lt : (n : ℕ) (f : ℕ → ℕ) → sum q n f < q
    sum_lt n f = rw (← reduce-sum n f) (reduce_lt q pos (sum q n f))

    pub sum-neg : (n : ℕ) (f : ℕ → ℕ) → sum q n (λ i. neg q (f i)) ≡ neg q (sum q n f)
    unfolding sum
    sum-neg zero f = sym (neg_zero q pos)
    sum-neg (suc n) f = rw (sum-neg n (λ i. f (suc i))) (sym (neg-add q pos (f zero) (sum q n (λ i. f (suc i)))))
