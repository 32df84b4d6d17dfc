-- The running totals of a sample: each bit's row is added to them or, for y, taken off.
use Rattle.std.specs.Prelude.{Bool, cond, List, ℕ}
use Rattle.residue.specs.Residue.{add, sub}
use Rattle.buffers.specs.Positions.{at}
use Rattle.totals.specs.Sample.{string_share}

-- a added to the total or, where the string counts as negative, taken off
abbrev pub signed_sum : ℕ → Bool → ℕ → ℕ → ℕ
signed_sum q negative total a = cond negative (sub q total a) (add q total a)

-- the totals of l with a row in them
abbrev pub with_row : ℕ → Bool → List ℕ → (ℕ → ℕ) → ℕ → ℕ
with_row q negative l r i = signed_sum q negative (at l i) (r i)

-- the totals after t bits of a string, which were those of l before
abbrev pub totals_of : ℕ → ℕ → Bool → (ℕ → ℕ) → (ℕ → ℕ) → List ℕ → ℕ → ℕ → ℕ
totals_of n q negative x w l t = with_row q negative l (string_share q n t x w)
