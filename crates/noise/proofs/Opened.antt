-- Opened, the shares are the words of the opened bytes, and their weight differences the polynomial of FIPS 203.
use Rattle.std.specs.Prelude.{◌≡◌, List, ◌-ℤ◌, length}
use Rattle.std.proofs.Math.Path.{sym, ap}
use Rattle.std.proofs.Common.{ap₂, ◌∙◌}
use Prim.Native.Nat.{ℕ, ◌+◌, ◌*◌, ◌/◌, ◌%◌, ◌^◌, ◌≤◌, ◌<◌}
use Rattle.std.proofs.Math.IntN.{pos}
use Rattle.residue.specs.Residue.{reduceℤ, EachBelow}
use Rattle.buffers.specs.Positions.{at, table, block}
use Rattle.buffers.specs.PositionLaws.{table_same, table_at, list_table}
use Rattle.buffers.specs.Rows.{length-rows, rows-below}
use Rattle.buffers.specs.Blocks.{block_past, block-rows}
use Rattle.checks.specs.Width.{bit}
use Rattle.checks.specs.FromBits.{from_same, from_lt}
use Rattle.masking.specs.Sharing.{xor_all}
use Rattle.masking.specs.Xor.{xor_all-zeros, bit_xor_table, from_xor_all}
use Rattle.binomial.specs.Signed.{weight, difference_of_weights}
use Rattle.binomial.specs.Weight.{weight-bits, bit_sum_from}
use Rattle.noise.specs.Fips203.{bytes_to_bits, bits_from, sample_poly_cbd}
use Rattle.noise.specs.Split.{noise_string, word_at, x_bit, y_bit, noise_shares, opened_bytes}
use Rattle.noise.proofs.BitLaws.{bits-at, are_bits}

module _ (k : ℕ) (string : List ℕ) (s : ℕ) where
  word_lt : word_at k string s < 2 ^ k
  word_lt = from_lt k _ (λ j. are_bits string (s + j))

  weight_word : k ≤ 16 → weight (word_at k string s) ≡ bits_from k (bytes_to_bits string) s
  weight_word l = weight-bits k (word_at k string s) l word_lt ∙ bit_sum_from k _ (λ j. are_bits string (s + j))

module _ (n k : ℕ) (bytes : List ℕ) where
  opened_at : (p : ℕ) → at (opened_bytes n k bytes) p ≡ xor_all (table n (λ i. at (noise_string k bytes i) p))
  unfolding opened_bytes
  opened_at p = ap (λ (f : ℕ → ℕ). f p) (list_table (64 * k) _ (λ p l. xor_all-zeros n _ (λ i. block_past (64 * k) bytes i p l)))

  -- bit p of the opened bytes is the XOR of the strings' bits p
  opened_bit : (p : ℕ) → at (bytes_to_bits (opened_bytes n k bytes)) p ≡ xor_all (table n (λ i. at (bytes_to_bits (noise_string k bytes i)) p))
  opened_bit p =
      bits-at (opened_bytes n k bytes) p ∙ ap (λ (x : ℕ). bit x (p % 8)) (opened_at (p / 8)) ∙ bit_xor_table n (p % 8) _
      ∙ ap xor_all (table_same n _ _ (λ i l. sym (bits-at (noise_string k bytes i) p)))

  -- and so it is with words
  opened_word : (s : ℕ) → xor_all (table n (λ i. word_at k (noise_string k bytes i) s)) ≡ word_at k (opened_bytes n k bytes) s
  opened_word s =
      from_xor_all k n (λ i j. at (bytes_to_bits (noise_string k bytes i)) (s + j)) (λ i j. are_bits (noise_string k bytes i) (s + j))
      ∙ from_same k _ _ (λ j l. sym (opened_bit (s + j)))

  -- the shares, whose bits begin where `first` says
  module _ (first : ℕ → ℕ → ℕ) where
    pub length-shares : length (noise_shares first n k bytes) ≡ 256 * n
    length-shares = length-rows 256 n _

    -- have k bits
    pub shares-below : EachBelow (2 ^ k) (noise_shares first n k bytes)
    shares-below = rows-below (2 ^ k) 256 n _ (λ t l i m. word_lt k (noise_string k bytes i) (first k t))

    -- and share a word of the opened bytes
    pub shares_opened : (t : ℕ) → t < 256 → xor_all (block n t (noise_shares first n k bytes)) ≡ word_at k (opened_bytes n k bytes) (first k t)
    shares_opened t l = ap xor_all (block-rows 256 n _ t l) ∙ opened_word (first k t)

  -- the weight difference of two of these is f[t] of SamplePolyCBD
  pub words-difference : (q t : ℕ) → t < 256 → k ≤ 16 → reduceℤ q (difference_of_weights (word_at k (opened_bytes n k bytes) (x_bit k t)) (word_at k (opened_bytes n k bytes) (y_bit k t))) ≡ at (sample_poly_cbd q k (opened_bytes n k bytes)) t
  unfolding sample_poly_cbd
  words-difference q t l m =
      let B = opened_bytes n k bytes in
      ap (reduceℤ q) (ap₂ (λ (x y : ℕ). pos x -ℤ pos y) (weight_word k B (x_bit k t) m) (weight_word k B (y_bit k t) m)) ∙ sym (table_at 256 _ t l)
