-- What crates above may use of the conversion: its shares are below q, they sum to the XOR of the bits, and which words it reads.
use Rattle.std.specs.Prelude.{◌≡◌}
use Rattle.std.proofs.Math.Path.{refl, sym, ap, fun_ext}
use Rattle.std.proofs.Common.{ap₂, ◌∙◌, mul-le-mul, lt-ltb, le-ltb}
use Prim.Native.Nat.{ℕ, zero, suc, ◌+◌, ◌-◌, ◌*◌, ◌/◌, ◌≤◌, ◌<◌}
use Rattle.std.proofs.Math.Decide.{dec_lt}
use native.Mathlib.Omega.{arith}
use Rattle.std.specs.Int.Bits.{bit_xor, xor_self, xor_zero_r}
use Rattle.residue.specs.Residue.{reduce, add, neg, sub, sum}
use Rattle.residue.proofs.Laws.{reduce-small, reduce_zero, reduce-reduce, reduce-add, reduce-neg, reduce_plus, add-reduce-left, neg-reduce, add_comm, add_assoc, add_left_comm, add_zero, zero_add, reduce_lt, add_lt, add-neg, neg_zero, neg-add}
use Rattle.residue.proofs.Sum.{sum_cong, sum_lt, reduce-sum, sum-reduce, sum-last, sum-add, sum-neg}
use Rattle.buffers.specs.Positions.{table, after, Same, Below}
use Rattle.buffers.specs.PositionLaws.{table_below, table-last}
use Rattle.masking.specs.Sharing.{xor_all}
use Rattle.masking.specs.Xor.{xor_all-append, xor_all-one, xor_all_lt}
use Rattle.conversion.specs.Conversion.{pairs, extend, less_twice, xor_bit, xor_share, convert, convert_bit, bit_words}
use Rattle.conversion.proofs.ZeroSharing.{zero_sharing, refresh_adds, zero_sharing_local, zero_sharing-sum}

-- ---- the words: half of them for steps 1 and 2, half for step 3

pub pairs-twice : (n : ℕ) → pairs n + pairs n ≡ bit_words n
unfolding pairs
pairs-twice zero = refl
pairs-twice (suc n) = go n ∙ ap (λ (m : ℕ). suc n * m) (omega arith)
  where
    go : (n : ℕ) → pairs n + n + (pairs n + n) ≡ suc n * n
    go zero = refl
    go (suc n) = omega (arith, go n)

pub pairs-few : (n : ℕ) → n ≤ 1 → pairs n ≡ 0
unfolding pairs
pairs-few zero h = refl
pairs-few (suc zero) h = refl
pairs-few (suc (suc n)) h = absurd (omega arith)

pub pairs-step : (n k : ℕ) → n ≡ suc k → pairs n ≡ pairs k + k
unfolding pairs
pairs-step n k e = rw e

pub bit_words-some : (n : ℕ) → 2 ≤ n → 0 < bit_words n
bit_words-some n h =
    let l : 1 ≤ n - 1 = omega arith in
    omega (arith, mul-le-mul h l)

pub pairs_up : (j n : ℕ) → j ≤ n → pairs j ≤ pairs n
pairs_up j n h =
    let l : j - 1 ≤ n - 1 = omega arith in
    omega (arith, pairs-twice j, pairs-twice n, mul-le-mul h l)

pub pairs-most : (n : ℕ) → n ≤ 8 → pairs n ≤ 28
pairs-most n h =
    let l : n - 1 ≤ 7 = omega arith in
    omega (arith, pairs-twice n, mul-le-mul h l)

pub pairs_half : (n : ℕ) → n * (n - 1) / 2 ≡ pairs n
pairs_half n = omega (arith, pairs-twice n)

module _ (q : ℕ) where
  -- ---- step 2

  pub extend-below : (j : ℕ) (A r : ℕ → ℕ) (i : ℕ) → i < j → extend q j A r i ≡ sub q (A i) (r i)
  unfolding extend
  extend-below j A r i h = rw (lt-ltb i j h)

  pub extend_from : (j : ℕ) (A r : ℕ → ℕ) (i : ℕ) → j ≤ i → extend q j A r i ≡ sum q j r
  unfolding extend
  extend_from j A r i h = rw (le-ltb i j h)

  pub less_twice_lt : 0 < q → (b v : ℕ) → less_twice q b v < q
  unfolding less_twice
  less_twice_lt pos b v = add_lt q pos v (neg q (2 * v * b))

  pub extend_cong : (j : ℕ) (A D r s : ℕ → ℕ) → Same j A D → Same j r s → extend q j A r ≡ extend q j D s
  extend_cong j A D r s h l = fun_ext (λ i. go i (dec_lt i j))
    where
      go : (i : ℕ) → Dec (i < j) → extend q j A r i ≡ extend q j D s i
      go i (yes m) = extend-below j A r i m ∙ ap₂ (sub q) (h i m) (l i m) ∙ sym (extend-below j D s i m)
      go i (no m) = extend_from j A r i (omega arith) ∙ sum_cong q j r s l ∙ sym (extend_from j D s i (omega arith))

  pub extend_lt : 0 < q → (j : ℕ) (A r : ℕ → ℕ) (i : ℕ) → extend q j A r i < q
  extend_lt pos j A r i = go (dec_lt i j)
    where
      go : Dec (i < j) → extend q j A r i < q
      go (yes h) = rw (extend-below j A r i h) (add_lt q pos _ _)
      go (no h) = rw (extend_from j A r i (omega arith)) (sum_lt q pos j r)

  pub xor_share_cong : (j b : ℕ) (A D r s : ℕ → ℕ) → Same j A D → Same j r s → xor_share q j A r b ≡ xor_share q j D s b
  unfolding xor_share
  xor_share_cong j b A D r s h l = ap (xor_bit q b) (extend_cong j A D r s h l)

  xor_bit-reduced : (b : ℕ) (B : ℕ → ℕ) (i : ℕ) → reduce q (xor_bit q b B i) ≡ xor_bit q b B i
  unfolding xor_bit less_twice
  xor_bit-reduced b B zero = reduce-add q _ _
  xor_bit-reduced b B (suc i) = reduce-add q _ _

  -- ---- steps 1 and 2: they read the first n shares of the bit and their own words

  pub convert_local : (n : ℕ) (b d w v : ℕ → ℕ) → Same n b d → Same (pairs n) w v → convert q n b w ≡ convert q n d v
  unfolding convert pairs
  convert_local zero b d w v h l = refl
  convert_local (suc zero) b d w v h l = fun_ext (λ i. h 0 (omega arith))
  convert_local (suc (suc m)) b d w v h l =
      let e = convert_local (suc m) b d w v (λ i k. h i (omega arith)) (λ j k. l j (omega arith)) in
      rw (h (suc m) (omega arith)) (xor_share_cong (suc m) (d (suc m)) _ _ _ _ (λ i k. ap (λ (f : ℕ → ℕ). f i) e) (λ i k. l (pairs (suc m) + i) (omega arith)))

  pub convert-reduced : (n : ℕ) (b w : ℕ → ℕ) → b 0 < q → (i : ℕ) → reduce q (convert q n b w i) ≡ convert q n b w i
  unfolding convert xor_share
  convert-reduced zero b w h i = reduce_zero q
  convert-reduced (suc zero) b w h i = reduce-small q h
  convert-reduced (suc (suc m)) b w h i = xor_bit-reduced (b (suc m)) _ i

  pub convert_lt : (n : ℕ) (b w : ℕ → ℕ) → b 0 < q → (i : ℕ) → convert q n b w i < q
  convert_lt n b w h i = rw (← convert-reduced n b w h i) (reduce_lt q (omega arith) (convert q n b w i))

  -- ---- all steps

  module _ (n : ℕ) (b w : ℕ → ℕ) where
    pub convert_bit_adds : b 0 < q → Same n (convert_bit q n b w) (λ i. add q (convert q n b w i) (zero_sharing q n (after (pairs n) w) i))
    unfolding convert_bit
    convert_bit_adds h = refresh_adds q n (after (pairs n) w) (convert q n b w) (λ i l. convert-reduced n b w h i)

    pub convert_bit_lt : b 0 < q → Below q n (convert_bit q n b w)
    convert_bit_lt h i l = rw (convert_bit_adds h i l) (add_lt q (omega arith) _ _)

  -- the first n bits and the first n(n − 1) words are all that is read
  pub convert_bit_local : (n : ℕ) (b d w v : ℕ → ℕ) → b 0 < q → d 0 < q → Same n b d → Same (bit_words n) w v → Same n (convert_bit q n b w) (convert_bit q n d v)
  convert_bit_local n b d w v hb hd s t i l =
      let p = pairs-twice n in
      convert_bit_adds n b w hb i l
      ∙ rw (convert_local n b d w v s (λ j m. t j (omega arith)), zero_sharing_local q n (after (pairs n) w) (after (pairs n) v) (λ j m. t (pairs n + j) (omega arith)) i l)
      (sym (convert_bit_adds n d v hd i l))

  -- ---- the sum

  module _ (pos : 0 < q) where
    extend-sum : (j : ℕ) (A r : ℕ → ℕ) → sum q (suc j) (extend q j A r) ≡ sum q j A
    extend-sum j A r =
        sum-last q j (extend q j A r)
        ∙ rw (extend_from j A r j (omega arith), sum_cong q j _ _ (extend-below j A r), sum-add q j A (λ i. neg q (r i)), sum-neg q pos j r, add_assoc, add_comm q (neg q (sum q j r)), add-neg q pos, add_zero, reduce-sum)

    pub less_twice_zero : (v : ℕ) → less_twice q 0 v ≡ reduce q v
    unfolding less_twice
    less_twice_zero v =
        let e : 2 * v * 0 ≡ 0 = omega arith in
        rw (e, neg_zero q pos, add_zero)

    pub less_twice-one : (v : ℕ) → less_twice q 1 v ≡ neg q v
    unfolding less_twice
    less_twice-one v =
        let e : 2 * v * 1 ≡ v + v = omega arith in
        rw (e, ← neg-reduce q (v + v), reduce_plus, neg-add q pos, ← add_assoc q v (neg q v) (neg q v), add-neg q pos, zero_add, reduce-neg)

    xor_bit_zero : (j : ℕ) (B : ℕ → ℕ) → sum q (suc j) (xor_bit q 0 B) ≡ sum q (suc j) B
    unfolding sum xor_bit
    xor_bit_zero j B = simp (less_twice_zero, sum-reduce q j (λ i. B (suc i)), add_zero, reduce-reduce, add-reduce-left)

    xor_bit-one : (j : ℕ) (B : ℕ → ℕ) → sum q (suc j) (xor_bit q 1 B) ≡ sub q 1 (sum q (suc j) B)
    unfolding sum xor_bit
    xor_bit-one j B = simp (less_twice-one, sum-neg q pos j (λ i. B (suc i)), neg-add q pos, add_assoc, add_left_comm)

    -- where B sums to a bit p, its XOR with the bit c
    xor_bit-sum : (j p c : ℕ) (B : ℕ → ℕ) → p < 2 → c < 2 → sum q (suc j) B ≡ reduce q p → sum q (suc j) (xor_bit q c B) ≡ reduce q (bit_xor p c)
    xor_bit-sum j p zero B h l e = xor_bit_zero j B ∙ e ∙ ap (reduce q) (sym (xor_zero_r p))
    xor_bit-sum j zero (suc zero) B h l e = rw (xor_bit-one j B, e, neg-reduce, neg_zero q pos) (add_zero q 1)
    xor_bit-sum j (suc zero) (suc zero) B h l e = rw (xor_bit-one j B, e, neg-reduce, add-neg q pos, xor_self) (sym (reduce_zero q))
    xor_bit-sum j (suc (suc p)) (suc zero) B h l e = absurd (omega arith)
    xor_bit-sum j p (suc (suc c)) B h l e = absurd (omega arith)

    bits_xor : (n : ℕ) (b : ℕ → ℕ) → Below 2 n b → xor_all (table n b) < 2
    bits_xor n b h = xor_all_lt 1 (table n b) (table_below 2 n b h)

    convert-sum : (n : ℕ) (b w : ℕ → ℕ) → Below 2 n b → sum q n (convert q n b w) ≡ reduce q (xor_all (table n b))
    unfolding convert xor_share
    convert-sum zero b w h = unfold sum table xor_all in sym (reduce_zero q)
    convert-sum (suc zero) b w h = unfold sum table in (add_zero q (b 0) ∙ ap (reduce q) (sym (xor_all-one (b 0))))
    convert-sum (suc (suc m)) b w h =
        xor_bit-sum (suc m) (xor_all (table (suc m) b)) (b (suc m)) _ (bits_xor (suc m) b (λ i l. h i (omega arith))) (h (suc m) (omega arith))
        (extend-sum (suc m) _ _ ∙ convert-sum (suc m) b w (λ i l. h i (omega arith)))
        ∙ ap (reduce q) (sym (ap xor_all (table-last (suc m) b) ∙ xor_all-append (table (suc m) b) _ ∙ ap (bit_xor (xor_all (table (suc m) b))) (xor_all-one (b (suc m)))))

    -- the shares of the bit sum to the XOR of the bits
    pub convert_bit-sum : (n : ℕ) (b w : ℕ → ℕ) → b 0 < q → Below 2 n b → sum q n (convert_bit q n b w) ≡ reduce q (xor_all (table n b))
    convert_bit-sum n b w h l =
        sum_cong q n _ _ (convert_bit_adds n b w h) ∙ sum-add q n (convert q n b w) (zero_sharing q n (after (pairs n) w))
        ∙ rw (zero_sharing-sum q pos n (after (pairs n) w), add_zero, reduce-sum) (convert-sum n b w l)
