-- What holds of the rows of a string's bits: their shares are below q, they sum to the bit, and which words they read.
use Rattle.std.specs.Prelude.{◌≡◌, List, length}
use Rattle.std.proofs.Common.{sym, ◌∙◌}
use Rattle.std.proofs.Math.Path.{ap}
use Prim.Native.Nat.{ℕ, ◌+◌, ◌*◌, ◌≤◌, ◌<◌}
use native.Mathlib.Omega.{arith}
use Rattle.std.proofs.Math.Arith.{digits_lt}
use Rattle.residue.specs.Residue.{reduce, sum}
use Rattle.buffers.specs.Overwrite.{overwrite}
use Rattle.buffers.specs.Positions.{at, table, after, Same, Below}
use Rattle.buffers.specs.PositionLaws.{after-at, front_at}
use Rattle.checks.specs.Width.{bit, bit_lt}
use Rattle.masking.specs.Sharing.{xor_all}
use Rattle.masking.specs.Xor.{bit-xor_all}
use Rattle.conversion.specs.Conversion.{bits_at, convert_bit, bit_words, value_words, row}
use Rattle.conversion.proofs.Laws.{convert_bit_lt, convert_bit_local, convert_bit-sum}

module _ (q n : ℕ) (large : 2 < q) where
  pub bit_below : (x : ℕ → ℕ) (t : ℕ) → bits_at x t 0 < q
  bit_below x t = omega (arith, bit_lt (x 0) t)

  pub row_lt : (x w : ℕ → ℕ) (t : ℕ) → Below q n (row q n x w t)
  unfolding row
  row_lt x w t = convert_bit_lt q n _ _ (bit_below x t)

  -- the n shares matter, and the words of the k bits
  pub row_local : (k t : ℕ) (x x' w w' : ℕ → ℕ) → t < k → Same n x x' → Same (value_words n k) w w' → Same n (row q n x w t) (row q n x' w' t)
  unfolding row
  row_local k t x x' w w' h e s =
      convert_bit_local q n (bits_at x t) (bits_at x' t) _ _ (bit_below x t) (bit_below x' t) (λ j m. ap (λ (z : ℕ). bit z t) (e j m)) (λ j m. s _ (digits_lt h m))

  -- over all shares, the bit
  pub row-sum : (x : List ℕ) (w : ℕ → ℕ) (t : ℕ) → length x ≡ n → sum q n (row q n (at x) w t) ≡ reduce q (bit (xor_all x) t)
  unfolding row
  row-sum x w t e =
      let positive : 0 < q = omega arith in
      convert_bit-sum q positive n (bits_at (at x) t) (after (t * bit_words n) w) (bit_below (at x) t) (λ i l. bit_lt (at x i) t) ∙ ap (reduce q) (sym (rw e at (bit-xor_all t x)))

  -- a row that the code made in front of a list, of the bits of its turn and of words that begin at p
  pub row_from : (t start p : ℕ) (x b v : ℕ → ℕ) (before r : List ℕ) → 1 ≤ n → Same n b (bits_at x t) → p ≡ start + t * bit_words n → r ≡ overwrite before 0 (table n (convert_bit q n b (after p v))) → Same n (at r) (row q n x (after start v) t)
  unfolding row
  row_from t start p x b v before r one same e d i h =
      front_at before n _ r d i h
      ∙ convert_bit_local q n b (bits_at x t) (after p v) (after (t * bit_words n) (after start v)) (rw (same 0 one) (bit_below x t)) (bit_below x t) same (λ j k. ap (λ (w : ℕ → ℕ). w j) (after-at start (t * bit_words n) p v e)) i h
