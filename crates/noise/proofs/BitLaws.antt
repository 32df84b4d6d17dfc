-- The bits of a byte string by their position.
use Rattle.std.specs.Prelude.{◌≡◌, List, ℕ, ◌+◌, ◌*◌, ◌/◌, ◌%◌, ◌^◌, ◌<◌, length}
use Rattle.std.proofs.Common.{sym, ap, ◌∙◌, arith}
use Rattle.std.proofs.Math.Nat.{zero-div}
use Rattle.std.proofs.Math.Decide.{dec_lt}
use Rattle.std.proofs.Math.ListN.{get_or-eq_default}
use Rattle.buffers.specs.Positions.{at, rows}
use Rattle.buffers.specs.Rows.{length-rows, rows_at}
use Rattle.checks.specs.Width.{bit, bit_lt}
use Rattle.checks.specs.FromBits.{AreBits}
use Rattle.noise.specs.Fips203.{bytes_to_bits}

-- bit p is bit p mod 8 of byte p / 8, and 0 behind the end
pub bits-at : (B : List ℕ) (p : ℕ) → at (bytes_to_bits B) p ≡ bit (at B (p / 8)) (p % 8)
unfolding bytes_to_bits
bits-at B p = go (dec_lt (p / 8) (length B))
  where
    go : Dec (p / 8 < length B) → at (rows (length B) 8 (λ i j. bit (at B i) j)) p ≡ bit (at B (p / 8)) (p % 8)
    go (yes h) =
        let e : p / 8 * 8 + p % 8 ≡ p = omega arith in
        ap (at (rows (length B) 8 (λ i j. bit (at B i) j))) (sym e) ∙ rows_at (length B) 8 (λ i j. bit (at B i) j) (p / 8) (p % 8) h (omega arith)
    go (no h) =
        get_or-eq_default (rows (length B) 8 (λ i j. bit (at B i) j)) 0 (omega (arith, length-rows (length B) 8 (λ i j. bit (at B i) j)))
        ∙ sym (ap (λ (x : ℕ). bit x (p % 8)) (get_or-eq_default B 0 (omega arith)) ∙ ap (λ (x : ℕ). x % 2) (zero-div (2 ^ (p % 8))))

pub are_bits : (B : List ℕ) → AreBits (at (bytes_to_bits B))
are_bits B p = rw (bits-at B p) (bit_lt (at B (p / 8)) (p % 8))

-- bit j of byte i
pub byte_bit : (B : List ℕ) (i j : ℕ) → j < 8 → at (bytes_to_bits B) (8 * i + j) ≡ bit (at B i) j
byte_bit B i j h =
    let d : (8 * i + j) / 8 ≡ i = omega arith in
    let m : (8 * i + j) % 8 ≡ j = omega arith in
    bits-at B (8 * i + j) ∙ rw (d, m)
