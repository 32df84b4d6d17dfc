-- FIPS 204: m mod± α, for a positive integer α, is the one integer of this range that is congruent to m modulo α.
use Rattle.std.specs.Prelude.{◌≡◌, ℕ, suc, ◌+◌, ◌/◌, ◌<◌, ◌≤◌, ℤ, pos, negsuc}
use Rattle.residue.specs.Residue.{reduceℤ}

-- -⌈α/2⌉ < z ≤ ⌊α/2⌋
abbrev pub InRange : ℕ → ℤ → Type 0
InRange α (pos a) = a ≤ α / 2
InRange α (negsuc a) = suc a < (α + 1) / 2

-- z is m mod± α
abbrev pub ModPlusMinus : ℕ → ℤ → ℤ → Type 0
ModPlusMinus α m z = InRange α z × (reduceℤ α z ≡ reduceℤ α m)
