-- Step 3 adds a sharing of zero: n numbers made of its words, whose sum is 0, that are linear in the words, and of which all but one can be
-- brought to any wanted value by the choice of the words.
use Rattle.std.specs.Prelude.{◌≡◌, Bool, true, false, cond, ◌≢◌, eqb}
use Rattle.std.proofs.Math.Path.{refl, sym, ap, fun_ext}
use Rattle.std.proofs.Common.{◌∙◌, not-suc-le-zero, le_of_suc-le-suc}
use Prim.Native.Nat.{ℕ, zero, suc, ◌+◌, ◌<◌}
use Rattle.std.proofs.Math.Nat as N
use native.Mathlib.Omega.{arith}
use borrow.Author.Tests.{eq-eqb, ne_eqb}
use Rattle.residue.specs.Residue.{reduce, add, neg, sub, sum}
use Rattle.residue.proofs.Laws.{reduce_zero, reduce-reduce, reduce-add, reduce-neg, add_comm, add_assoc, add_left_comm, zero_add, add_zero, add_lt, add-neg, neg_zero, neg-neg, neg-add}
use Rattle.residue.proofs.Sum.{sum_cong, sum_zero, sum-add, sum-neg, sum_one}
use Rattle.buffers.specs.Positions.{after, join, Same, Below}
use Rattle.buffers.specs.PositionLaws.{join-below, join_from}
use Rattle.conversion.specs.Conversion.{pairs, transfer, refresh_share, refresh_from, refresh}

-- v at position i, and 0 elsewhere
abbrev pub only : ℕ → ℕ → ℕ → ℕ
only i v j = cond (eqb j i) v 0

module _ (q : ℕ) where
  -- What share i of n gains: the first share the sum of a word for each other share; the others lose those words, and are then refreshed
  -- among themselves with the words behind.
  unfoldable pub zero_sharing : ℕ → (ℕ → ℕ) → ℕ → ℕ
  zero_sharing zero w i = 0
  zero_sharing (suc n) w zero = sum q n w
  zero_sharing (suc n) w (suc i) = sub q (zero_sharing n (after n w) i) (w i)

  -- ---- one pair

  module _ (i m r : ℕ) (A : ℕ → ℕ) where
    pub transfer_gains : transfer q i m r A i ≡ add q (A i) r
    unfolding transfer
    transfer_gains = rw (eq-eqb i i refl)

    pub transfer_loses : m ≢ i → transfer q i m r A m ≡ sub q (A m) r
    unfolding transfer
    transfer_loses h = rw (ne_eqb m i h, eq-eqb m m refl)

    pub transfer_keeps : (s : ℕ) → s ≢ i → s ≢ m → transfer q i m r A s ≡ A s
    unfolding transfer
    transfer_keeps s h l = rw (ne_eqb s i h, ne_eqb s m l)

  -- shares that are the same stay so, with words that are the same
  pub transfer-same : (n i m r s : ℕ) (A D : ℕ → ℕ) → r ≡ s → Same n A D → Same n (transfer q i m r A) (transfer q i m s D)
  unfolding transfer
  transfer-same n i m r s A D e h j l = rw (e, h j l)

  pub refresh_share-same : (n i m c : ℕ) (w v A D : ℕ → ℕ) → Same c w v → Same n A D → Same n (refresh_share q i m c w A) (refresh_share q i m c v D)
  unfolding refresh_share
  refresh_share-same n i m zero w v A D e h = h
  refresh_share-same n i m (suc c) w v A D e h =
      refresh_share-same n i (suc m) c (λ j. w (suc j)) (λ j. v (suc j)) _ _ (λ j l. e (suc j) (omega arith)) (transfer-same n i m (w 0) (v 0) A D (e 0 (omega arith)) h)

  refresh_from-same : (n i c : ℕ) (w A D : ℕ → ℕ) → Same n A D → Same n (refresh_from q i c w A) (refresh_from q i c w D)
  unfolding refresh_from
  refresh_from-same n i zero w A D h = h
  refresh_from-same n i (suc c) w A D h = refresh_from-same n (suc i) c (after c w) _ _ (refresh_share-same n i (suc i) c w w A D (λ j l. refl) h)

  pub refresh-same : (n : ℕ) (w A D : ℕ → ℕ) → Same n A D → Same n (refresh q n w A) (refresh q n w D)
  refresh-same n w A D h = refresh_from-same n 0 n w A D h

  -- ---- the pairs of one share: it gains the sum of the words, and each of the others loses its word

  pub refresh_share_gains : (i m c : ℕ) (w A : ℕ → ℕ) → i < m → reduce q (A i) ≡ A i → refresh_share q i m c w A i ≡ add q (A i) (sum q c w)
  unfolding refresh_share sum
  refresh_share_gains i m zero w A h r = sym (add_zero q (A i) ∙ r)
  refresh_share_gains i m (suc c) w A h r =
      let e = transfer_gains i m (w 0) A in
      refresh_share_gains i (suc m) c (λ j. w (suc j)) (transfer q i m (w 0) A) (omega arith) (rw e (reduce-add q (A i) (w 0))) ∙ rw (e, add_assoc)

  refresh_share_keeps : (i m c : ℕ) (w A : ℕ → ℕ) (s : ℕ) → s ≢ i → s < m → refresh_share q i m c w A s ≡ A s
  unfolding refresh_share
  refresh_share_keeps i m zero w A s h l = refl
  refresh_share_keeps i m (suc c) w A s h l =
      refresh_share_keeps i (suc m) c (λ j. w (suc j)) (transfer q i m (w 0) A) s h (omega arith) ∙ transfer_keeps i m (w 0) A s h (omega arith)

  pub refresh_share_loses : (i m c : ℕ) (w A : ℕ → ℕ) (t : ℕ) → i < m → t < c → refresh_share q i m c w A (m + t) ≡ sub q (A (m + t)) (w t)
  unfolding refresh_share
  refresh_share_loses i m zero w A t h l = absurd (not-suc-le-zero l)
  refresh_share_loses i m (suc c) w A zero h l =
      rw N.add-zero (refresh_share_keeps i (suc m) c (λ j. w (suc j)) (transfer q i m (w 0) A) m (omega arith) (omega arith) ∙ transfer_loses i m (w 0) A (omega arith))
  refresh_share_loses i m (suc c) w A (suc t) h l =
      let e : m + suc t ≡ suc m + t = omega arith in
      rw e (refresh_share_loses i (suc m) c (λ j. w (suc j)) (transfer q i m (w 0) A) t (omega arith) (le_of_suc-le-suc l)
      ∙ rw (transfer_keeps i m (w 0) A (suc m + t) (omega arith) (omega arith)))

  -- ---- all pairs

  refresh_from_keeps : (i c : ℕ) (w A : ℕ → ℕ) (s : ℕ) → s < i → refresh_from q i c w A s ≡ A s
  unfolding refresh_from
  refresh_from_keeps i zero w A s h = refl
  refresh_from_keeps i (suc c) w A s h =
      refresh_from_keeps (suc i) c (after c w) (refresh_share q i (suc i) c w A) s (omega arith) ∙ refresh_share_keeps i (suc i) c w A s (omega arith) (omega arith)

  refresh_from_adds : (i c : ℕ) (w A : ℕ → ℕ) → ((t : ℕ) → t < c → reduce q (A (i + t)) ≡ A (i + t))
      → (t : ℕ) → t < c → refresh_from q i c w A (i + t) ≡ add q (A (i + t)) (zero_sharing c w t)
  unfolding refresh_from zero_sharing
  refresh_from_adds i zero w A r t h = absurd (not-suc-le-zero h)
  refresh_from_adds i (suc c) w A r zero h =
      rw N.add-zero (refresh_from_keeps (suc i) c (after c w) (refresh_share q i (suc i) c w A) i (omega arith)
      ∙ refresh_share_gains i (suc i) c w A (omega arith) (rw N.add-zero at (r zero h)))
  refresh_from_adds i (suc c) w A r (suc t) h =
      let e : i + suc t ≡ suc i + t = omega arith in
      rw e (refresh_from_adds (suc i) c (after c w) (refresh_share q i (suc i) c w A) reduced t (le_of_suc-le-suc h)
      ∙ rw (refresh_share_loses i (suc i) c w A t (omega arith) (le_of_suc-le-suc h)) (simp (add_assoc, add_comm, add_left_comm)))
    where
      reduced : (s : ℕ) → s < c → reduce q (refresh_share q i (suc i) c w A (suc i + s)) ≡ refresh_share q i (suc i) c w A (suc i + s)
      reduced s l = rw (refresh_share_loses i (suc i) c w A s (omega arith) l) (reduce-add q _ _)

  -- step 3 adds a sharing of zero to shares below q
  pub refresh_adds : (n : ℕ) (w A : ℕ → ℕ) → ((t : ℕ) → t < n → reduce q (A t) ≡ A t) → Same n (refresh q n w A) (λ t. add q (A t) (zero_sharing n w t))
  refresh_adds n w A r t h =
      let e : (s : ℕ) → 0 + s ≡ s = N.zero-add in
      rw e at (refresh_from_adds 0 n w A (λ s l. rw (e s) (r s l)) t h)

  -- ---- its words

  pub zero_sharing_local : (n : ℕ) (w v : ℕ → ℕ) → Same (pairs n) w v → Same n (zero_sharing n w) (zero_sharing n v)
  unfolding zero_sharing pairs
  zero_sharing_local zero w v h i l = refl
  zero_sharing_local (suc n) w v h zero l = sum_cong q n w v (λ j m. h j (omega arith))
  zero_sharing_local (suc n) w v h (suc i) l =
      rw (zero_sharing_local n (after n w) (after n v) (λ j m. h (n + j) (omega arith)) i (le_of_suc-le-suc l), h i (omega arith))

  -- the words that bring every share but ℓ to d
  unfoldable pub solve : ℕ → ℕ → (ℕ → ℕ) → ℕ → ℕ
  solve zero ℓ d = λ j. 0
  solve (suc n) zero d = join n (λ j. neg q (d (suc j))) (λ j. 0)
  solve (suc n) (suc ℓ) d = join n (only ℓ (d 0)) (solve n ℓ (λ i. d (suc i)))

  pub solve-ends : (n ℓ : ℕ) (d : ℕ → ℕ) (j : ℕ) → solve n ℓ d (pairs n + j) ≡ 0
  unfolding solve pairs
  solve-ends zero ℓ d j = refl
  solve-ends (suc n) zero d j =
      let e : pairs n + n + j ≡ n + (pairs n + j) = omega arith in
      rw e (join_from n _ _ (pairs n + j))
  solve-ends (suc n) (suc ℓ) d j =
      let e : pairs n + n + j ≡ n + (pairs n + j) = omega arith in
      rw e (join_from n _ _ (pairs n + j) ∙ solve-ends n ℓ (λ i. d (suc i)) j)

  -- ---- shares stay below q

  module _ (pos : 0 < q) where
    cond_lt : (b : Bool) {x y : ℕ} → x < q → y < q → cond b x y < q
    cond_lt true h l = h
    cond_lt false h l = l

    pub transfer-below : (n i m r : ℕ) (A : ℕ → ℕ) → Below q n A → Below q n (transfer q i m r A)
    unfolding transfer
    transfer-below n i m r A h s l = cond_lt (eqb s i) (add_lt q pos (A s) r) (cond_lt (eqb s m) (add_lt q pos (A s) (neg q r)) (h s l))

    pub refresh_share-below : (n i m c : ℕ) (w A : ℕ → ℕ) → Below q n A → Below q n (refresh_share q i m c w A)
    unfolding refresh_share
    refresh_share-below n i m zero w A h = h
    refresh_share-below n i m (suc c) w A h = refresh_share-below n i (suc m) c (λ j. w (suc j)) (transfer q i m (w 0) A) (transfer-below n i m (w 0) A h)

  -- ---- the sum, and every value but one

  module _ (pos : 0 < q) where
    pub zero_sharing-sum : (n : ℕ) (w : ℕ → ℕ) → sum q n (zero_sharing n w) ≡ 0
    unfolding sum zero_sharing
    zero_sharing-sum zero w = refl
    zero_sharing-sum (suc n) w =
        rw (sum-add q n (zero_sharing n (after n w)) (λ i. neg q (w i)), zero_sharing-sum n (after n w), sum-neg q pos n w, zero_add, reduce-neg, add-neg q pos)

    pub zero_sharing-add : (n : ℕ) (w e : ℕ → ℕ) (i : ℕ) → zero_sharing n (λ j. add q (w j) (e j)) i ≡ add q (zero_sharing n w i) (zero_sharing n e i)
    unfolding zero_sharing
    zero_sharing-add zero w e i = sym (zero_add q 0 ∙ reduce_zero q)
    zero_sharing-add (suc n) w e zero = sum-add q n w e
    zero_sharing-add (suc n) w e (suc i) = rw (zero_sharing-add n (after n w) (after n e) i, neg-add q pos) (simp (add_assoc, add_left_comm, add_comm))

    zero_sharing-none : (n i : ℕ) → zero_sharing n (λ j. 0) i ≡ 0
    unfolding zero_sharing
    zero_sharing-none zero i = refl
    zero_sharing-none (suc n) zero = sum_zero q n
    zero_sharing-none (suc n) (suc i) = rw (zero_sharing-none n i, neg_zero q pos) (zero_add q 0 ∙ reduce_zero q)

    -- for ℓ = 0 the words of the first share do it; else that of the pair (0, ℓ) serves the first share, and the other shares are one fewer
    pub zero_sharing-solve : (n ℓ : ℕ) (d : ℕ → ℕ) (i : ℕ) → ℓ < n → i < n → i ≢ ℓ → zero_sharing n (solve n ℓ d) i ≡ reduce q (d i)
    unfolding zero_sharing solve
    zero_sharing-solve zero ℓ d i h l f = absurd (not-suc-le-zero h)
    zero_sharing-solve (suc n) zero d zero h l f = absurd (f refl)
    zero_sharing-solve (suc n) zero d (suc i) h l f =
        rw (fun_ext (join_from n (λ j. neg q (d (suc j))) (λ j. 0)), zero_sharing-none n i, join-below n (λ j. neg q (d (suc j))) (λ j. 0) i (le_of_suc-le-suc l), neg-neg q pos, zero_add, reduce-reduce)
    zero_sharing-solve (suc n) (suc ℓ) d zero h l f =
        sum_one q n ℓ _ (le_of_suc-le-suc h) (λ j m k. join-below n _ _ j m ∙ rw (ne_eqb j ℓ k)) ∙ ap (reduce q) (join-below n _ _ ℓ (le_of_suc-le-suc h) ∙ rw (eq-eqb ℓ ℓ refl))
    zero_sharing-solve (suc n) (suc ℓ) d (suc i) h l f =
        let g = solve n ℓ (λ i. d (suc i)) in
        let k : i ≢ ℓ = λ e. f (ap suc e) in
        rw (fun_ext (join_from n (only ℓ (d 0)) g), zero_sharing-solve n ℓ (λ i. d (suc i)) i (le_of_suc-le-suc h) (le_of_suc-le-suc l) k, join-below n (only ℓ (d 0)) g i (le_of_suc-le-suc l), ne_eqb i ℓ k, neg_zero q pos, add_zero, reduce-reduce)
