-- The running totals give the shares of the sample.
use Rattle.std.specs.Prelude.{◌≡◌, Bool, List, ℕ, ◌+◌, ◌*◌, ◌≤◌, ◌<◌, length, drop}
use Rattle.std.proofs.Math.Path.{refl, sym, ap, ap₂}
use Rattle.std.proofs.Common.{◌∙◌, add-one}
use Rattle.std.proofs.Math.Bool.{true, false}
use Rattle.residue.specs.Residue.{sub, sum}
use Rattle.residue.proofs.Laws.{reduce-small, add_assoc, zero_add, add_zero, add_lt, neg_zero, neg-add}
use Rattle.residue.proofs.Sum.{sum_cong, sum_lt, reduce-sum, sum-last}
use Rattle.buffers.specs.Overwrite.{overwrite}
use Rattle.buffers.specs.Positions.{at, table, after, Same, Below}
use Rattle.buffers.specs.PositionLaws.{after-at, drop-after, table_same, front_at, front-values, front-twice}
use Rattle.conversion.specs.Conversion.{bit_words, row}
use Rattle.conversion.proofs.Rows.{row_local}
use Rattle.totals.specs.Sample.{string_share, sample_share, sample_shares}
use Rattle.totals.specs.Totals.{signed_sum, with_row, totals_of}

module _ (q : ℕ) (pos : 0 < q) where
  pub signed_lt : (negative : Bool) (total a : ℕ) → signed_sum q negative total a < q
  signed_lt true total a = add_lt q pos _ _
  signed_lt false total a = add_lt q pos _ _

  -- the terms of a sum one by one
  signed-none : (negative : Bool) (total : ℕ) (f : ℕ → ℕ) → total < q → signed_sum q negative total (sum q 0 f) ≡ total
  unfolding sum
  signed-none true total f h = rw (neg_zero q pos) (add_zero q total ∙ reduce-small q h)
  signed-none false total f h = add_zero q total ∙ reduce-small q h

  signed-next : (negative : Bool) (total t : ℕ) (f : ℕ → ℕ) → signed_sum q negative (signed_sum q negative total (sum q t f)) (f t) ≡ signed_sum q negative total (sum q (t + 1) f)
  signed-next true total t f = rw (add-one t, sum-last q t f, neg-add q pos) (add_assoc q total _ _)
  signed-next false total t f = rw (add-one t, sum-last q t f) (add_assoc q total _ _)

  -- from 0, those of x added give its share, and those of y taken off the sample's
  pub signed_zero : (n k : ℕ) (x w : ℕ → ℕ) (i : ℕ) → signed_sum q false 0 (string_share q n k x w i) ≡ string_share q n k x w i
  unfolding string_share
  signed_zero n k x w i = zero_add q _ ∙ reduce-sum q k _

  signed-share : (n k : ℕ) (x y w : ℕ → ℕ) (i : ℕ)
      → signed_sum q true (signed_sum q false 0 (string_share q n k x w i)) (string_share q n k y (after (k * bit_words n) w) i) ≡ sample_share q n k x y w i
  unfolding sample_share
  signed-share n k x y w i = ap (λ (a : ℕ). sub q a (string_share q n k y (after (k * bit_words n) w) i)) (signed_zero n k x w i)

-- a string's share is below q
pub string_share_lt : (q n : ℕ) → 0 < q → (k : ℕ) (x w : ℕ → ℕ) (i : ℕ) → string_share q n k x w i < q
unfolding string_share
string_share_lt q n pos k x w i = sum_lt q pos k _

-- the n shares of a string matter, and the words of its k bits
module _ (q n : ℕ) (large : 2 < q) where
  pub string_share_local : (k : ℕ) (x x' w w' : ℕ → ℕ) → Same n x x' → Same (k * bit_words n) w w' → Same n (string_share q n k x w) (string_share q n k x' w')
  unfolding string_share
  string_share_local k x x' w w' e s i l = sum_cong q k _ _ (λ t h. row_local q n large k t x x' w w' h e s i l)

module _ (n q : ℕ) (pos : 0 < q) (negative : Bool) (x w : ℕ → ℕ) (l : List ℕ) where
  abbrev totals : ℕ → ℕ → ℕ
  totals = totals_of n q negative x w l

  pub totals-none : n ≤ length l → Below q n (at l) → l ≡ overwrite l 0 (table n (totals 0))
  unfolding string_share
  totals-none h b = front-values l n (totals 0) l h refl (λ i k. sym (signed-none q pos negative (at l i) _ (b i k))) (λ i k. refl)

  module _ (t : ℕ) (m : List ℕ) (e : m ≡ overwrite l 0 (table n (totals t))) where
    totals-at : Same n (at m) (totals t)
    totals-at = front_at l n (totals t) m e

    pub totals-below : Below q n (at m)
    totals-below i h = rw (totals-at i h) (signed_lt q pos negative _ _)

    -- with row t in them
    pub totals-row : (r : ℕ → ℕ) → Same n r (row q n x w t) → Same n (with_row q negative m r) (totals (t + 1))
    unfolding string_share
    totals-row r s i h = ap₂ (signed_sum q negative) (totals-at i h) (s i h) ∙ signed-next q pos negative (at l i) t (λ t. row q n x w t i)

    pub totals-next : (u : List ℕ) (r : ℕ → ℕ) → Same n r (row q n x w t) → u ≡ overwrite m 0 (table n (with_row q negative m r)) → u ≡ overwrite l 0 (table n (totals (t + 1)))
    totals-next u r s d = front-twice n (totals t) (with_row q negative m r) l m u e d ∙ ap (overwrite l 0) (table_same n _ _ (totals-row r s))

-- the totals of both strings, whose words begin at `start` and at `half`, from zeros on: the shares
pub totals-shares : (n k q start half : ℕ) (x y words work first second : List ℕ) → 0 < q → Same n (at work) (λ i. 0)
    → first ≡ overwrite work 0 (table n (λ i. signed_sum q false (at work i) (string_share q n k (at x) (after start (at words)) i)))
    → half ≡ start + k * bit_words n → second ≡ overwrite first 0 (table n (λ i. signed_sum q true (at first i) (string_share q n k (at y) (after half (at words)) i)))
    → table n (at second) ≡ sample_shares n k q x y (drop start words)
unfolding sample_shares
totals-shares n k q start half x y words work first second pos z e h d =
    table_same n _ (sample_share q n k (at x) (at y) w) share ∙ ap (λ (v : ℕ → ℕ). table n (sample_share q n k (at x) (at y) v)) (sym (drop-after start words))
  where
    w : ℕ → ℕ
    w = after start (at words)

    share : Same n (at second) (sample_share q n k (at x) (at y) w)
    share i l =
        front_at first n _ second d i l
        ∙ ap₂ (signed_sum q true) (front_at work n _ first e i l ∙ ap (λ (a : ℕ). signed_sum q false a (string_share q n k (at x) w i)) (z i l))
        (ap (λ (v : ℕ → ℕ). string_share q n k (at y) v i) (after-at start (k * bit_words n) half (at words) h))
        ∙ signed-share q pos n k (at x) (at y) w i

-- zeros over them: the list as it was
pub totals_cleared : (n : ℕ) (f g : ℕ → ℕ) (work first second u : List ℕ) → n ≤ length work → Same n (at work) (λ i. 0)
    → first ≡ overwrite work 0 (table n f) → second ≡ overwrite first 0 (table n g) → u ≡ overwrite second 0 (table n (λ i. 0)) → u ≡ work
totals_cleared n f g work first second u h z e d c =
    front-twice n g (λ i. 0) work second u (front-twice n f g work first second e d) c ∙ sym (front-values work n (λ i. 0) work h refl z (λ i k. refl))
