-- A value is its bit 0, whose factor is 1, and what does not move with the refresh words of that bit: all other bits' words lie behind them.
use Rattle.std.proofs.Math.Path.{ap}
use Rattle.std.proofs.Common.{◌∙◌}
use Prim.Native.Nat.{ℕ, suc, ◌+◌, ◌^◌, ◌≤◌, ◌<◌}
use Rattle.residue.specs.Residue.{add, mul, sum}
use Rattle.residue.proofs.Laws.{one-mul, add-reduce-left}
use Rattle.residue.proofs.Sum.{sum_cong}
use Rattle.buffers.specs.Positions.{Same}
use Rattle.secrecy.proofs.Translation.{Invariant}
use Rattle.conversion.specs.Conversion.{row, bits_at, bit_words}
use Rattle.conversion.proofs.RowTranslation.{row-form, rows_behind, moving}
use Rattle.conversion.proofs.Translation.{bit_form}
use Rattle.values.specs.Values.{binary_sum, value_share}

module _ (q n m : ℕ) (x : ℕ → ℕ) where
  -- what a value of suc m bits adds to its first bit
  unfoldable pub other_bits : (ℕ → ℕ) → ℕ → ℕ
  other_bits w i = sum q m (λ t. mul q (2 ^ suc t) (row q n x w (suc t) i))

  module _ (large : 2 < q) where
    pub share-form : (w : ℕ → ℕ) → Same n (value_share q n (suc m) x w) (λ i. add q (bit_form q n 0 (bits_at x 0) w i) (other_bits w i))
    unfolding value_share binary_sum other_bits sum
    share-form w i l =
        ap (λ (a : ℕ). add q a (other_bits w i)) (one-mul q (row q n x w 0 i)) ∙ add-reduce-left q _ _ ∙ ap (λ (a : ℕ). add q a (other_bits w i)) (row-form q n x large w i l)

    pub others_invariant : (ℓ W : ℕ) (l : ℓ < n) (fits : 0 + bit_words n ≤ W) → Invariant (moving q n ℓ W large l fits) other_bits
    unfolding other_bits
    others_invariant ℓ W l fits w e s h i = sum_cong q m _ _ (λ t g. ap (mul q (2 ^ suc t)) (rows_behind q n w e s h x t i))
