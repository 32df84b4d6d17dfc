-- The sample (document 01, 'The sample'; source 003, Algorithm 10).
-- Shares and words are functions of the position. Shares are counted from 0 here, from 1 on the page.
use Rattle.std.specs.Prelude.{List, ℕ, ◌*◌}
use Rattle.residue.specs.Residue.{sub, sum}
use Rattle.buffers.specs.Positions.{at, table, after}
use Rattle.conversion.specs.Conversion.{bit_words, row}

module _ (q n : ℕ) where
  -- share i, summed over the k bits of a string
  unfoldable pub string_share : ℕ → (ℕ → ℕ) → (ℕ → ℕ) → ℕ → ℕ
  string_share k x w i = sum q k (λ t. row q n x w t i)

  -- Output share i: its sum over the x bits, which take their words first, less its sum over the y bits.
  unfoldable pub sample_share : ℕ → (ℕ → ℕ) → (ℕ → ℕ) → (ℕ → ℕ) → ℕ → ℕ
  sample_share k x y w i = sub q (string_share k x w i) (string_share k y (after (k * bit_words n) w) i)

unfoldable pub sample_shares : ℕ → ℕ → ℕ → List ℕ → List ℕ → List ℕ → List ℕ
sample_shares n k q x y words = table n (sample_share q n k (at x) (at y) (at words))

-- W: how many words a sample takes
abbrev pub sample_words : ℕ → ℕ → ℕ
sample_words n k = 2 * k * bit_words n
