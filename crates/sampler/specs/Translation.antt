-- A sample is its first bit, and what does not move with the refresh words of that bit: all other bits' words lie behind them.
use Rattle.std.proofs.Math.Path.{ap, ap₂}
use Rattle.std.proofs.Common.{◌∙◌, arith}
use Prim.Native.Nat.{ℕ, suc, ◌+◌, ◌*◌, ◌≤◌, ◌<◌}
use Rattle.residue.specs.Residue.{add, sub, sum}
use Rattle.residue.proofs.Laws.{add_assoc}
use Rattle.residue.proofs.Sum.{sum_cong}
use Rattle.buffers.specs.Positions.{after, Same}
use Rattle.secrecy.proofs.Translation.{Invariant}
use Rattle.conversion.specs.Conversion.{bits_at, bit_words, row}
use Rattle.conversion.proofs.RowTranslation.{row-form, words-behind, rows_behind, moving}
use Rattle.conversion.proofs.Translation.{bit_form}
use Rattle.totals.specs.Sample.{string_share, sample_share}

module _ (q n m : ℕ) (x y : ℕ → ℕ) where
  -- what a sample of suc m bits adds to its first bit
  unfoldable pub other_bits : (ℕ → ℕ) → ℕ → ℕ
  other_bits w i = sub q (sum q m (λ t. row q n x w (suc t) i)) (string_share q n (suc m) y (after (suc m * bit_words n) w) i)

  module _ (large : 2 < q) where
    pub share-form : (w : ℕ → ℕ) → Same n (sample_share q n (suc m) x y w) (λ i. add q (bit_form q n 0 (bits_at x 0) w i) (other_bits w i))
    unfolding sample_share string_share other_bits sum
    share-form w i l = add_assoc q _ _ _ ∙ ap (λ (a : ℕ). add q a (other_bits w i)) (row-form q n x large w i l)

    pub others_invariant : (ℓ W : ℕ) (l : ℓ < n) (fits : 0 + bit_words n ≤ W) → Invariant (moving q n ℓ W large l fits) other_bits
    unfolding other_bits
    others_invariant ℓ W l fits w e s h i =
        ap₂ (sub q) (sum_cong q m _ _ (λ t g. rows_behind q n w e s h x t i))
        (ap (λ (v : ℕ → ℕ). string_share q n (suc m) y v i) (words-behind q n w e s h (suc m * bit_words n) (omega arith)))
