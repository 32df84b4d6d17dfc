-- Facts of the code's steps.
use mathlib.Core.Path.{◌≡◌, refl, sym, ap, ◌∙◌}
use mathlib.Core.List.{List}
use Prim.Native.Nat.{ℕ, zero, suc, ◌+◌, ◌-◌, ◌*◌, ◌≤◌, ◌<◌}
use native.Mathlib.Nat as N
use native.Mathlib.Omega.{arith}
use lib.ListN.{length, set, drop, replicate, length-set}
use lib.Seq.{get_or-set_same, get_or-set_other, get_or-drop}
use Rattle.residue.specs.Residue.{sub, neg, add, sum, cswap_sub}
use Rattle.residue.proofs.Laws.{reduce-small, reduce-add, add_zero, add_comm, add_assoc, add_lt, neg-sub, sub_zero}
use Rattle.residue.proofs.Sum.{running_none, running_next, running_all, sum-last, sum_lt}
use Rattle.buffers.specs.Positions.{at, table, after, Same, Below}
use Rattle.buffers.specs.PositionLaws.{table_same, after-after, set_agrees}
use Rattle.checks.specs.Width.{bit-lowest}
use Rattle.conversion.specs.Conversion.{bits_at, extend, less_twice, xor_bit, xor_share, refresh_share, refresh, convert_bit, bit_shares}
use Rattle.conversion.proofs.ZeroSharing.{zero_sharing, refresh_share_gains, refresh_share_loses, refresh_adds}
use Rattle.conversion.proofs.Laws.{less_twice_zero, less_twice-one, extend-below, extend_from, convert_bit_local}
use Rattle.conversion.specs.Arrays.{Holds}

-- ---- a difference, less twice its product with a bit

pub less_twice_cswap : (q a r b : ℕ) → 0 < q → b < 2 → less_twice q b (sub q a r) ≡ cswap_sub q b a r
less_twice_cswap q a r zero p h = less_twice_zero q p (sub q a r) ∙ reduce-add q a (neg q r)
less_twice_cswap q a r (suc zero) p h = less_twice-one q p (sub q a r) ∙ neg-sub q p a r
less_twice_cswap q a r (suc (suc b)) p h = absurd (omega arith)

-- ---- the loop of step 2

module _ (q j bit : ℕ) (A r : ℕ → ℕ) where
  -- after i turns: c has its shares up to j, without the bit in the first, and s is the sum of the words met
  pub record Turned (i : ℕ) (c : List ℕ) (s : ℕ) : Type 0 where
    pub eight : length c ≡ 8
    pub done : (t : ℕ) → t < i → t ≤ j → at c t ≡ less_twice q bit (extend q j A r t)
    pub summed : i ≤ j → s ≡ sum q i r
    pub all-summed : j ≤ i → s ≡ sum q j r

  module _ (i : ℕ) (c : List ℕ) (s : ℕ) (T : Turned i c s) where
    stored : (v : ℕ) → i < 8 → v ≡ less_twice q bit (extend q j A r i) → (t : ℕ) → t < i + 1 → t ≤ j → at (set c i v) t ≡ less_twice q bit (extend q j A r t)
    stored v h e t l m = set_agrees c i v (λ k. less_twice q bit (extend q j A r k)) (omega (arith, T.eight)) e t (λ d. T.done t (omega arith) m)

    pub turned_lt : 0 < q → i ≤ j → s < q
    turned_lt p l = rw (T.summed l) (sum_lt q p i r)

    pub turned_below : (v z : ℕ) → i < 8 → i < j → v ≡ less_twice q bit (sub q (A i) (r i)) → z ≡ add q s (r i) → Turned (i + 1) (set c i v) z
    turned_below v z h l e d =
        let more : z ≡ sum q (i + 1) r = running_next q r i s z (T.summed (omega arith)) d in
        record {
          eight = length-set c i v ∙ T.eight;
          done = stored v h (e ∙ ap (less_twice q bit) (sym (extend-below q j A r i l)));
          summed = λ m. more;
          all-summed = λ m. running_all q r (i + 1) j z (omega arith) more;
        }

    pub turned_at : (v : ℕ) → 0 < q → i < 8 → i ≡ j → v ≡ less_twice q bit (sub q s 0) → Turned (i + 1) (set c i v) s
    turned_at v p h l e =
        record {
          eight = length-set c i v ∙ T.eight;
          done = stored v h (e ∙ ap (less_twice q bit) (sub_zero q p s ∙ reduce-small q (turned_lt p (omega arith)) ∙ T.all-summed (omega arith) ∙ sym (extend_from q j A r i (omega arith))));
          summed = λ m. absurd (omega arith);
          all-summed = λ m. T.all-summed (omega arith);
        }

    pub turned_past : j < i → Turned (i + 1) c s
    turned_past l = record { eight = T.eight; done = λ t m k. T.done t (omega arith) k; summed = λ m. absurd (omega arith); all-summed = λ m. T.all-summed (omega arith) }

    -- the bit is added to the first share
    pub turned_all : (v : ℕ) → j < i → v ≡ add q (at c 0) bit → Holds (j + 1) (xor_share q j A r bit) (set c 0 v)
    unfolding xor_share xor_bit
    turned_all v h e = record { eight = length-set c 0 v ∙ T.eight; same = λ t l. set_agrees c 0 v (xor_bit q bit (extend q j A r)) (omega (arith, T.eight)) (e ∙ ap (λ (z : ℕ). add q z bit) (T.done 0 (omega arith) (omega arith))) t (other t l) }
      where
        other : (t : ℕ) → t < j + 1 → (t ≡ 0 → ⊥) → at c t ≡ xor_bit q bit (extend q j A r) t
        other zero l d = absurd (d refl)
        other (suc t) l d = T.done (suc t) (omega arith) (omega arith)

  pub turned_none : Turned 0 (replicate 8 0) 0
  turned_none = record { eight = refl; done = λ t l m. absurd (omega arith); summed = λ m. running_none q r; all-summed = λ m. none (omega arith) }
    where
      none : j ≡ 0 → 0 ≡ sum q j r
      none e = unfold sum in rw e

-- ---- steps 1 and 2

pub products : (a b : ℕ) → a ≤ 8 → b ≤ 8 → a * b ≤ 64
products a b h l = N.mul-le-mul h l

-- ---- the loops of step 3

module _ (q : ℕ) (w : ℕ → ℕ) where
  -- Share i has taken the words from o on with the shares before j, which have lost theirs.
  pub record Paired (i o : ℕ) (b : List ℕ) (j p : ℕ) (a : List ℕ) (own : ℕ) : Type 0 where
    pub eight : length a ≡ 8
    pub position : p + (i + 1) ≡ o + j
    pub gained : own ≡ add q (at b i) (sum q (j - (i + 1)) (after o w))
    pub lost : (t : ℕ) → i < t → t < j → at a t ≡ sub q (at b t) (w (o + (t - (i + 1))))
    pub kept : (t : ℕ) → j ≤ t → at a t ≡ at b t

  front_lt : (n i : ℕ) (b : List ℕ) → Below q (n - i) (after i (at b)) → i < n → at b i < q
  front_lt n i b below h = rw N.add-zero at (below 0 (omega arith))

  module _ (n i o : ℕ) (b : List ℕ) (eight : length b ≡ 8) (below : Below q (n - i) (after i (at b))) (h : i < n) where
    pub paired_none : Paired i o b (i + 1) o b (at b i)
    paired_none =
        let z : i + 1 - (i + 1) ≡ 0 = omega arith in
        record {
          eight = eight;
          position = refl;
          gained = sym (rw z (unfold sum in add_zero q (at b i)) ∙ reduce-small q (front_lt n i b below h));
          lost = λ t l m. absurd (omega arith);
          kept = λ t l. refl;
        }

    module _ (j p : ℕ) (a : List ℕ) (own : ℕ) (P : Paired i o b j p a own) (l : i < j) where
      pub paired-next : (v z : ℕ) → j < 8 → z ≡ add q own (w p) → v ≡ sub q (at a j) (w p) → Paired i o b (j + 1) (p + 1) (set a j v) z
      paired-next v z m e d =
          let k : p ≡ o + (j - (i + 1)) = omega (arith, P.position) in
          let f : j + 1 - (i + 1) ≡ suc (j - (i + 1)) = omega arith in
          record {
            eight = length-set a j v ∙ P.eight;
            position = omega (arith, P.position);
            gained = e ∙ rw (P.gained, f, k, add_assoc) (ap (add q (at b i)) (sym (sum-last q (j - (i + 1)) (after o w))));
            lost = λ t x y. set_agrees a j v (λ t. sub q (at b t) (w (o + (t - (i + 1))))) (omega (arith, P.eight)) (d ∙ rw (P.kept j (omega arith), k)) t (λ c. P.lost t x (omega arith));
            kept = λ t x. get_or-set_other a j t v 0 (omega arith) ∙ P.kept t (omega arith);
          }

      pub other_lt : j < n → at a j < q
      other_lt m =
          let e : i + (j - i) ≡ j = omega arith in
          rw (P.kept j (omega arith)) (rw e at (below (j - i) (omega arith)))

      pub paired_lt : own < q
      paired_lt = rw P.gained (add_lt q (omega (arith, front_lt n i b below h)) (at b i) (sum q (j - (i + 1)) (after o w)))

      -- all pairs, and the share itself written
      pub paired-all : n ≡ j → n ≤ 8 → (v : ℕ) → v ≡ own → Same (n - i) (after i (at (set a i v))) (after i (refresh_share q i (i + 1) (n - (i + 1)) (after o w) (at b)))
      paired-all e m v d zero x =
          let z : i + 0 ≡ i = omega arith in
          let c : j - (i + 1) ≡ n - (i + 1) = omega arith in
          rw (z, get_or-set_same a i v 0 (omega (arith, P.eight)), d, P.gained, c) (sym (refresh_share_gains q i (i + 1) (n - (i + 1)) (after o w) (at b) (omega arith) (reduce-small q (front_lt n i b below h))))
      paired-all e m v d (suc t) x =
          let z : i + suc t ≡ i + 1 + t = omega arith in
          let k : i + 1 + t - (i + 1) ≡ t = omega arith in
          rw z (get_or-set_other a i (i + 1 + t) v 0 (omega arith) ∙ P.lost (i + 1 + t) (omega arith) (omega arith) ∙ rw k (sym (refresh_share_loses q i (i + 1) (n - (i + 1)) (after o w) (at b) t (omega arith) (omega arith))))

  -- Before share i, with words from p on: what is wanted of the shares from i on is what these words make of them.
  pub record Remaining (n : ℕ) (T : ℕ → ℕ) (i p : ℕ) (a : List ℕ) : Type 0 where
    pub eight : length a ≡ 8
    pub below : Below q (n - i) (after i (at a))
    pub wanted : Same (n - i) (after i T) (λ t. add q (at a (i + t)) (zero_sharing q (n - i) (after p w) t))

  pub remaining_all : (n : ℕ) (T : ℕ → ℕ) (p : ℕ) (a : List ℕ) → length a ≡ 8 → Below q n (at a) → Same n T (refresh q n (after p w) (at a)) → Remaining n T 0 p a
  remaining_all n T p a e b h =
      let z : n - 0 ≡ n = omega arith in
      record { eight = e; below = λ t l. rw (N.zero-add t) (b t (omega arith)); wanted = λ t l. all t (omega arith) ∙ rw (z, N.zero-add t) }
    where
      all : (t : ℕ) → t < n → T (0 + t) ≡ add q (at a t) (zero_sharing q n (after p w) t)
      all t l = ap T (N.zero-add t) ∙ h t l ∙ refresh_adds q n (after p w) (at a) (λ s m. reduce-small q (b s m)) t l

  module _ (n : ℕ) (T : ℕ → ℕ) (i o : ℕ) (b : List ℕ) (L : Remaining n T i o b) (h : i < n) (p : ℕ) (a : List ℕ) (eight : length a ≡ 8)
      (R : Same (n - i) (after i (at a)) (after i (refresh_share q i (i + 1) (n - (i + 1)) (after o w) (at b)))) (k : p ≡ o + (n - (i + 1))) where
    abbrev whole : n - i ≡ suc (n - (i + 1))
    whole = omega arith

    pub share-done : at a i ≡ T i
    unfolding zero_sharing
    share-done =
        let z : i + 0 ≡ i = omega arith in
        rw z at (R 0 (omega arith)) ∙ refresh_share_gains q i (i + 1) (n - (i + 1)) (after o w) (at b) (omega arith) (reduce-small q (front_lt n i b L.below h)) ∙ sym (rw (whole, z) at (L.wanted 0 (omega arith)))

    pub remaining_next : Remaining n T (i + 1) p a
    unfolding zero_sharing
    remaining_next = record { eight = eight; below = λ t m. rw (loss t m) (add_lt q (omega (arith, front_lt n i b L.below h)) _ _); wanted = λ t m. next t m }
      where
        regroup : (x y z : ℕ) → add q x (add q y z) ≡ add q (add q x z) y
        regroup x y z = ap (add q x) (add_comm q y z) ∙ sym (add_assoc q x z y)

        loss : (t : ℕ) → t < n - (i + 1) → at a (i + 1 + t) ≡ sub q (at b (i + 1 + t)) (w (o + t))
        loss t m =
            let e : i + suc t ≡ i + 1 + t = omega arith in
            rw e at (R (suc t) (omega arith)) ∙ refresh_share_loses q i (i + 1) (n - (i + 1)) (after o w) (at b) t (omega arith) m

        next : (t : ℕ) → t < n - (i + 1) → T (i + 1 + t) ≡ add q (at a (i + 1 + t)) (zero_sharing q (n - (i + 1)) (after p w) t)
        next t m =
            let e : i + 1 + t ≡ i + suc t = omega arith in
            rw (loss t m, e, k) (L.wanted (suc t) (omega arith) ∙ rw (whole, after-after o (n - (i + 1)) w) (regroup (at b (i + suc t)) _ (neg q (w (o + t)))))

-- ---- one bit alone

-- Its shares, which stand in front of the array, are their own lowest bits.
pub bit_alone : (n q : ℕ) (bits words : List ℕ) (start : ℕ) (array lowest : List ℕ) → 2 < q → 1 ≤ n → n ≤ 8 → Below 2 n (at bits) → Same n (at array) (at bits) → Holds 8 (bits_at (at array) 0) lowest
    → Below 2 n (at lowest) × (table n (convert_bit q n (at lowest) (after start (at words))) ≡ bit_shares n q bits (drop start words))
unfolding bit_shares
bit_alone n q bits words start array lowest large h m below same L =
    (small, table_same n _ _ (convert_bit_local q n (at lowest) (at bits) _ _ (omega (arith, small 0 h)) (omega (arith, below 0 h)) lowest-same (λ j l. sym (get_or-drop start words j 0))))
  where
    lowest-same : Same n (at lowest) (at bits)
    lowest-same i l = L.same i (omega arith) ∙ rw (same i l) (bit-lowest (at bits i) ∙ omega (arith, below i l))

    small : Below 2 n (at lowest)
    small i l = rw (lowest-same i l) (below i l)
