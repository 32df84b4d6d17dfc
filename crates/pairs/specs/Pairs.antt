-- The number of pairs of k-bit strings with a given difference (document 02, A.4).
use Rattle.std.specs.Prelude.{Bool, false, cond, ℕ, ◌^◌, eqb, ℤ, pos, negsuc}
use Rattle.residue.specs.Residue.{total}
use Rattle.buffers.specs.Positions.{table}
use Rattle.binomial.specs.Signed.{difference_of_weights}

-- whether two integers are the same
abbrev pub sameℤ : ℤ → ℤ → Bool
sameℤ (pos a) (pos b) = eqb a b
sameℤ (pos a) (negsuc b) = false
sameℤ (negsuc a) (pos b) = false
sameℤ (negsuc a) (negsuc b) = eqb a b

-- 1 where a test holds
abbrev pub indicator : Bool → ℕ
indicator b = cond b 1 0

-- f 0 + .. + f (n - 1)
abbrev pub sum_to : ℕ → (ℕ → ℕ) → ℕ
sum_to n f = total (table n f)

-- how many pairs of k-bit strings x, y have the difference d, for k up to 16
unfoldable pub pairs : ℕ → ℤ → ℕ
pairs k d = sum_to (2 ^ k) (λ x. sum_to (2 ^ k) (λ y. indicator (sameℤ (difference_of_weights x y) d)))
