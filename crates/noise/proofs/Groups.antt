-- Four coefficients lie in k bytes, which the code reads as one number.
use Rattle.std.specs.Prelude.{◌≡◌, List, ℕ, ◌+◌, ◌-◌, ◌*◌, ◌/◌, ◌%◌, ◌^◌, ◌≤◌, ◌<◌}
use Rattle.std.proofs.Math.Path.{refl}
use Rattle.std.proofs.Common.{sym, ap, ◌∙◌, mod-eq_of_lt, arith}
use Rattle.std.proofs.Math.Nat as N
use Rattle.buffers.specs.Positions.{at}
use Rattle.buffers.specs.Blocks.{block_at}
use Rattle.checks.specs.Width.{bit}
use Rattle.checks.specs.FromBits.{from_bits, from_same, from_append, from_part, from_number}
use Rattle.noise.specs.Fips203.{bytes_to_bits}
use Rattle.noise.specs.Split.{noise_string, word_at, x_bit, y_bit}
use Rattle.noise.proofs.BitLaws.{bits-at, are_bits, byte_bit}

-- ---- the bytes of a group

-- j bytes above another
group_next : (bytes : List ℕ) (i j v : ℕ) → at bytes i < 256 → v ≡ word_at (8 * j) bytes (8 * (i + 1)) → at bytes i + v * 256 ≡ word_at (8 * (j + 1)) bytes (8 * i)
group_next bytes i j v h e =
    let f : ℕ → ℕ = λ p. at (bytes_to_bits bytes) (8 * i + p) in
    let n : 8 * (j + 1) ≡ 8 * j + 8 = omega arith in
    let low : from_bits 8 f ≡ at bytes i = from_same 8 f (bit (at bytes i)) (byte_bit bytes i) ∙ from_number 8 (at bytes i) ∙ mod-eq_of_lt h in
    let high : from_bits (8 * j) (λ p. f (8 + p)) ≡ v = from_same (8 * j) _ _ (λ p l. ap (at (bytes_to_bits bytes)) (omega arith)) ∙ sym e in
    sym (ap (λ (m : ℕ). from_bits m f) n ∙ from_append (8 * j) 8 f ∙ rw (low, high) (omega arith))

module _ (bytes : List ℕ) (h : (i : ℕ) → at bytes i < 256) where
  one_byte : (i : ℕ) → at bytes i ≡ word_at (8 * 1) bytes (8 * i)
  one_byte i =
      let none : 0 ≡ word_at (8 * 0) bytes (8 * (i + 1)) = unfold from_bits in refl in
      omega (arith, group_next bytes i 0 0 (h i) none)

  pub two_bytes : (i : ℕ) → at bytes i + at bytes (i + 1) * 256 ≡ word_at (8 * 2) bytes (8 * i)
  two_bytes i = group_next bytes i 1 (at bytes (i + 1)) (h i) (one_byte (i + 1))

  pub three-bytes : (i : ℕ) → at bytes i + at bytes (i + 1) * 256 + at bytes (i + 2) * 65536 ≡ word_at (8 * 3) bytes (8 * i)
  three-bytes i =
      let e : i + 1 + 1 ≡ i + 2 = omega arith in
      omega (arith, ap (at bytes) e, group_next bytes i 2 (at bytes (i + 1) + at bytes (i + 1 + 1) * 256) (h i) (two_bytes (i + 1)))

-- ---- its coefficients

-- bit p of string i
string_bit : (k : ℕ) (bytes : List ℕ) (i p : ℕ) → p < 8 * (64 * k) → at (bytes_to_bits (noise_string k bytes i)) p ≡ at (bytes_to_bits bytes) (8 * (i * (64 * k)) + p)
string_bit k bytes i p h =
    let d : (8 * (i * (64 * k)) + p) / 8 ≡ i * (64 * k) + p / 8 = omega arith in
    let m : (8 * (i * (64 * k)) + p) % 8 ≡ p % 8 = omega arith in
    let l : p / 8 < 64 * k = omega arith in
    bits-at (noise_string k bytes i) p ∙ ap (λ (x : ℕ). bit x (p % 8)) (block_at (64 * k) bytes i (p / 8) l) ∙ sym (bits-at bytes (8 * (i * (64 * k)) + p) ∙ rw (d, m))

-- where group g of string i begins
abbrev pub group_at : ℕ → ℕ → ℕ → ℕ
group_at k i g = i * (64 * k) + g * k

module _ (bytes : List ℕ) (k i g : ℕ) (h : g < 64) where
  -- the word of coefficient 4g + c that begins at its bit d
  group_word : (c d : ℕ) → c < 4 → d ≤ k → word_at (8 * k) bytes (8 * group_at k i g) / 2 ^ (2 * k * c + d) % 2 ^ k ≡ word_at k (noise_string k bytes i) (2 * (4 * g + c) * k + d)
  group_word c d l m =
      let s : ℕ = 2 * k * c + d in
      let b : k * c ≤ k * 3 = N.mul-le-mul (N.le_refl k) (omega arith) in
      let z : g * k ≤ 63 * k = N.mul-le-mul (omega arith) (N.le_refl k) in
      let e : 8 * k ≡ (8 * k - k - s) + k + s = omega arith in
      let f : ℕ → ℕ = λ j. at (bytes_to_bits bytes) (8 * group_at k i g + j) in
      ap (λ (w : ℕ). from_bits w f / 2 ^ s % 2 ^ k) e ∙ from_part k (8 * k - k - s) s f (λ j. are_bits bytes (8 * group_at k i g + j))
      ∙ from_same k _ _ (λ j n. ap (at (bytes_to_bits bytes)) (omega arith) ∙ sym (string_bit k bytes i (2 * (4 * g + c) * k + d + j) (omega arith)))

  pub group_x : (c : ℕ) → c < 4 → word_at (8 * k) bytes (8 * group_at k i g) / 2 ^ (2 * k * c) % 2 ^ k ≡ word_at k (noise_string k bytes i) (x_bit k (4 * g + c))
  group_x c l = simp N.add-zero at (group_word c 0 l (omega arith))

  pub group_y : (c : ℕ) → c < 4 → word_at (8 * k) bytes (8 * group_at k i g) / 2 ^ (2 * k * c + k) % 2 ^ k ≡ word_at k (noise_string k bytes i) (y_bit k (4 * g + c))
  group_y c l = group_word c k l (N.le_refl k)
