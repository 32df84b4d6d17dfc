-- What n − 1 shares of a converted string tell: nothing (document 02, A.7: 'The rule about n − 1 shares covers this answer too').
use Rattle.std.specs.Prelude.{◌≡◌, List, ◌++◌, ℕ, ◌≤◌, ◌<◌, length}
use Rattle.residue.specs.Residue.{reduce}
use Rattle.checks.specs.Checks.{accepted, checked}
use Rattle.masking.specs.Sharing.{xor_all}
use Rattle.secrecy.specs.Secrecy.{Full, Indistinguishable}
use Rattle.conversion.specs.Conversion.{value_words, string_checks}
use Rattle.conversion.specs.Secrecy.{AlikeBut}
use Rattle.values.specs.Values.{value_shares, converted_value}

-- For every share ℓ left out and any two shared strings that pass the checks down to 6: a one-to-one map of the full lists of words makes the
-- two calls alike in all other shares, whatever words stand behind them, the same in both, and whatever stood in their outputs before. Each
-- answers the number of its words, its shares are those of the written steps, and their residue is its own string's number modulo q.
unfoldable pub ValueSecrecy : ℕ → ℕ → ℕ → Type 0
ValueSecrecy n k q =
    (ℓ : ℕ) → ℓ < n → (x x' : List ℕ) → checked (string_checks n k q x) ≡ accepted tt → checked (string_checks n k q x') ≡ accepted tt
    → Indistinguishable (Full q (value_words n k)) (λ words words'. (behind out out' : List ℕ) → n ≤ length out → n ≤ length out'
    → AlikeBut ℓ n q (value_words n k) (value_shares n k q x words) (reduce q (xor_all x)) (converted_value n k q x (words ++ behind) out) (value_shares n k q x' words') (reduce q (xor_all x')) (converted_value n k q x' (words' ++ behind) out'))
