-- What holds of the written steps: the shares are below q, they sum to the difference of the weights, and which words they read.
use Rattle.std.specs.Prelude.{◌≡◌, List, ℕ, ◌+◌, ◌*◌, ◌^◌, ◌≤◌, ◌<◌, length}
use Rattle.std.proofs.Common.{sym, ◌∙◌, arith}
use Rattle.std.proofs.Math.Path.{ap, ap₂}
use Rattle.residue.specs.Residue.{reduce, add, neg, sub, sum, EachBelow}
use Rattle.residue.proofs.Laws.{add_lt, sub-reduce}
use Rattle.residue.proofs.Sum.{sum_cong, sum-reduce, sum-add, sum-neg, sum_swap}
use Rattle.buffers.specs.Positions.{at, after, Same}
use Rattle.checks.specs.Width.{bit}
use Rattle.masking.specs.Sharing.{xor_all}
use Rattle.masking.specs.Xor.{xor_all_lt}
use Rattle.binomial.specs.Signed.{weight}
use Rattle.binomial.specs.Weight.{sum-bits, weight-bits}
use Rattle.conversion.specs.Conversion.{bit_words, row}
use Rattle.conversion.proofs.Rows.{row-sum}
use Rattle.totals.specs.Sample.{string_share, sample_share, sample_words}
use Rattle.totals.proofs.Totals.{string_share_local}

module _ (q n : ℕ) (large : 2 < q) where
  abbrev positive : 0 < q
  positive = omega arith

  pub share_lt : (k : ℕ) (x y w : ℕ → ℕ) (i : ℕ) → sample_share q n k x y w i < q
  unfolding sample_share
  share_lt k x y w i = add_lt q positive _ _

  -- ---- n shares of each string matter, and the words: a string reads its first k × n(n − 1), and a sample its first W

  pub share_local : (k : ℕ) (x x' y y' w w' : ℕ → ℕ) → Same n x x' → Same n y y' → Same (sample_words n k) w w' → Same n (sample_share q n k x y w) (sample_share q n k x' y' w')
  unfolding sample_share
  share_local k x x' y y' w w' e d s i l =
      ap₂ (sub q) (string_share_local q n large k x x' w w' e (λ j m. s j (omega arith)) i l) (string_share_local q n large k y y' _ _ d (λ j m. s (k * bit_words n + j) (omega arith)) i l)

  -- ---- the sum

  module _ (k : ℕ) (l : k ≤ 16) where
    -- over all shares, a string's bits sum to its weight
    string_sum : (x : List ℕ) (w : ℕ → ℕ) → length x ≡ n → EachBelow (2 ^ k) x → sum q n (string_share q n k (at x) w) ≡ reduce q (weight (xor_all x))
    unfolding string_share
    string_sum x w e h =
        sum_swap q n k (row q n (at x) w) ∙ sum_cong q k _ (λ t. reduce q (bit (xor_all x) t)) (λ t m. row-sum q n large x w t e)
        ∙ sum-reduce q k (bit (xor_all x)) ∙ sum-bits q k (xor_all x) ∙ ap (reduce q) (sym (weight-bits k (xor_all x) l (xor_all_lt k x h)))

    pub share-sum : (x y : List ℕ) (w : ℕ → ℕ) → length x ≡ n → length y ≡ n → EachBelow (2 ^ k) x → EachBelow (2 ^ k) y
        → sum q n (sample_share q n k (at x) (at y) w) ≡ sub q (weight (xor_all x)) (weight (xor_all y))
    unfolding sample_share
    share-sum x y w e d h g =
        sum-add q n (string_share q n k (at x) w) (λ i. neg q (string_share q n k (at y) (after (k * bit_words n) w) i))
        ∙ ap (add q (sum q n (string_share q n k (at x) w))) (sum-neg q positive n (string_share q n k (at y) (after (k * bit_words n) w)))
        ∙ ap₂ (sub q) (string_sum x w e h) (string_sum y (after (k * bit_words n) w) d g)
        ∙ sub-reduce q (weight (xor_all x)) (weight (xor_all y))
