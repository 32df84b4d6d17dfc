-- What is read off an opened residue and off two opened strings (document 01: the centred value, the plain weight difference).
use Rattle.std.specs.Prelude.{cond, List, [], ◌∷◌, ℕ, zero, suc, ◌+◌, ◌*◌, ◌^◌, leb, ℤ, pos, ◌-ℤ◌}
use Rattle.checks.specs.Width.{bit}
use Rattle.checks.specs.Checks.{Check, Verdict, verdict, string_length, modulus_at_least, below}

-- r where 2r is at most q, else r - q (document 02, A.9)
abbrev pub centred_value : ℕ → ℕ → ℤ
centred_value q r = cond (leb (2 * r) q) (pos r) (pos r -ℤ pos q)

abbrev pub centre_checks : ℕ → ℕ → List Check
centre_checks q r = modulus_at_least 3 q ∷ below 17 0 q r ∷ []

unfoldable pub centred : ℕ → ℕ → Verdict ℤ
centred q r = verdict (centre_checks q r) (centred_value q r)

-- the sum of the bits of x below bit k
unfoldable pub bit_sum : ℕ → ℕ → ℕ
bit_sum zero x = 0
bit_sum (suc k) x = bit_sum k x + bit x k

-- the weight of a 16-bit word: its count of one bits
abbrev pub weight : ℕ → ℕ
weight x = bit_sum 16 x

abbrev pub difference_of_weights : ℕ → ℕ → ℤ
difference_of_weights x y = pos (weight x) -ℤ pos (weight y)

abbrev pub weight_checks : ℕ → ℕ → ℕ → List Check
weight_checks k x y = string_length k ∷ below 12 0 (2 ^ k) x ∷ below 12 1 (2 ^ k) y ∷ []

unfoldable pub weight_difference : ℕ → ℕ → ℕ → Verdict ℤ
weight_difference k x y = verdict (weight_checks k x y) (difference_of_weights x y)
