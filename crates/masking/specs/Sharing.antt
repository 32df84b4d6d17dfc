-- Making and opening sharings (document 01: 'The quantities', 'Questions put to a call').
use Rattle.std.specs.Prelude.{List, [], ◌∷◌, ◌++◌, ℕ, ◌-◌, ◌^◌, length}
use Rattle.std.specs.Int.Bits.{bit_xor}
use Rattle.residue.specs.Residue.{reduce, total}
use Rattle.buffers.specs.Overwrite.{overwrite}
use Rattle.checks.specs.Checks.{Check, Verdict, verdict, Outcome, settled, share_count, string_length, modulus_at_least, exactly, at_least, all_below, narrow, below}

-- the string of a Boolean sharing: the XOR of its shares
unfoldable pub xor_all : List ℕ → ℕ
xor_all [] = 0
xor_all (x ∷ l) = bit_xor x (xor_all l)

-- ---- masking a value

-- the masks in their order, and then the value XOR all masks
unfoldable pub mask_shares : ℕ → List ℕ → List ℕ
mask_shares v masks = masks ++ (bit_xor v (xor_all masks) ∷ [])

abbrev pub mask_checks : ℕ → ℕ → ℕ → List ℕ → ℕ → List Check
mask_checks n k v masks room =
    share_count n ∷ string_length k ∷ below 12 0 (2 ^ k) v ∷ exactly 13 (n - 1) masks ∷ narrow 14 k masks ∷ at_least 10 n room ∷ []

unfoldable pub masked : ℕ → ℕ → ℕ → List ℕ → List ℕ → Outcome ℕ (List ℕ)
masked n k v masks out = settled (verdict (mask_checks n k v masks (length out)) n) out (overwrite out 0 (mask_shares v masks))

-- ---- opening Boolean shares

abbrev pub open_string_checks : ℕ → ℕ → List ℕ → List Check
open_string_checks n k shares = share_count n ∷ string_length k ∷ exactly 4 n shares ∷ narrow 6 k shares ∷ []

unfoldable pub opened_string : ℕ → ℕ → List ℕ → Verdict ℕ
opened_string n k shares = verdict (open_string_checks n k shares) (xor_all shares)

-- ---- opening arithmetic shares

abbrev pub open_residue_checks : ℕ → ℕ → List ℕ → List Check
open_residue_checks n q shares = share_count n ∷ modulus_at_least 3 q ∷ exactly 15 n shares ∷ all_below 16 q shares ∷ []

-- the residue of an arithmetic sharing: the sum of its shares modulo q
unfoldable pub opened_residue : ℕ → ℕ → List ℕ → Verdict ℕ
opened_residue n q shares = verdict (open_residue_checks n q shares) (reduce q (total shares))
