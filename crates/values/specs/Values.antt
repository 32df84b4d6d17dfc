-- Values, and not only bits (document 02, A.7; source 003, Algorithm 9): n shares modulo q of the number of a shared string. The bits take their words
-- from bit 0 up, and q may be smaller than the number, as document 02 has it.
-- Shares and words are functions of the position. Shares are counted from 0 here, from 1 on the page.
use Rattle.std.specs.Prelude.{List, ℕ, ◌^◌, length}
use Rattle.residue.specs.Residue.{mul, sum}
use Rattle.buffers.specs.Positions.{at, table}
use Rattle.checks.specs.Checks.{Outcome}
use Rattle.conversion.specs.Conversion.{row, value_words, value_checks, shares_out}

-- f 0 + 2 × f 1 + 4 × f 2 + .., k terms, modulo q
unfoldable pub binary_sum : ℕ → ℕ → (ℕ → ℕ) → ℕ
binary_sum q k f = sum q k (λ t. mul q (2 ^ t) (f t))

-- output share i: over the k bits, share i of bit t times 2 to the power t
unfoldable pub value_share : ℕ → ℕ → ℕ → (ℕ → ℕ) → (ℕ → ℕ) → ℕ → ℕ
value_share q n k x w i = binary_sum q k (λ t. row q n x w t i)

unfoldable pub value_shares : ℕ → ℕ → ℕ → List ℕ → List ℕ → List ℕ
value_shares n k q shares words = table n (value_share q n k (at shares) (at words))

-- The call takes the words from position 0 on and answers how many.
unfoldable pub converted_value : ℕ → ℕ → ℕ → List ℕ → List ℕ → List ℕ → Outcome ℕ (List ℕ)
converted_value n k q shares words out = shares_out (value_checks n k q shares words 0 (length out)) (value_words n k) (value_shares n k q shares words) out
