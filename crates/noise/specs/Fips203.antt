-- FIPS 203, with its names: BytesToBits (Algorithm 4) and SamplePolyCBD (Algorithm 8).
use Rattle.std.specs.Prelude.{List, ℕ, ◌+◌, ◌*◌, pos, ◌-ℤ◌, length}
use Rattle.residue.specs.Residue.{total, reduceℤ}
use Rattle.buffers.specs.Positions.{at, table, rows}
use Rattle.checks.specs.Width.{bit}

-- b[8i + j] is bit j of byte B[i], the lowest first
unfoldable pub bytes_to_bits : List ℕ → List ℕ
bytes_to_bits B = rows (length B) 8 (λ i j. bit (at B i) j)

-- b[s] + .. + b[s + η - 1]
abbrev pub bits_from : ℕ → List ℕ → ℕ → ℕ
bits_from η b s = total (table η (λ j. at b (s + j)))

-- f[i] is x - y mod q, where x is the sum of the bits b[2iη + j] and y that of the bits b[2iη + η + j], with j from 0 to η - 1
unfoldable pub sample_poly_cbd : ℕ → ℕ → List ℕ → List ℕ
sample_poly_cbd q η B =
    let b = bytes_to_bits B in
    table 256 (λ i. reduceℤ q (pos (bits_from η b (2 * i * η)) -ℤ pos (bits_from η b (2 * i * η + η))))
