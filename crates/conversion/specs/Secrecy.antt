-- What n − 1 shares of a converted bit tell: nothing (document 01, 'The rule about n − 1 shares', for the one-bit call).
use Rattle.std.specs.Prelude.{◌≡◌, List, ℕ, ◌+◌, ◌≤◌, ◌<◌, length, take}
use Rattle.residue.specs.Residue.{reduce, total}
use Rattle.checks.specs.Checks.{Outcome, accepted, checked}
use Rattle.masking.specs.Sharing.{xor_all}
use Rattle.secrecy.specs.Secrecy.{Full, between, Indistinguishable, AgreeBut}
use Rattle.conversion.specs.Conversion.{bit_words, bit_shares, sharing_checks, converted}

-- The outcome of an accepted call: what it answers, its n shares, and their residue.
pub record Converts (n q answered : ℕ) (written : List ℕ) (opened : ℕ) (o : Outcome ℕ (List ℕ)) : Type 0 where
  pub answer : o.answer ≡ accepted answered
  pub shares : take n o.buffers ≡ written
  pub residue : reduce q (total (take n o.buffers)) ≡ opened

-- Two such outcomes, with the same answer, that agree in every share but ℓ.
pub record AlikeBut (ℓ n q answered : ℕ) (written : List ℕ) (opened : ℕ) (o : Outcome ℕ (List ℕ)) (written' : List ℕ) (opened' : ℕ) (o' : Outcome ℕ (List ℕ)) : Type 0 where
  pub one : Converts n q answered written opened o
  pub other : Converts n q answered written' opened' o'
  pub agree : AgreeBut ℓ n o.buffers o'.buffers

-- For every share ℓ left out and any two shared bits that pass their checks: a one-to-one map of the full lists of words makes the two calls
-- alike in all other shares, whatever words stand before and behind them, the same in both, and whatever stood in their outputs before. Each
-- answers the position after its words, its shares are those of the written steps, and their residue is its own bit.
unfoldable pub BitSecrecy : ℕ → ℕ → Type 0
BitSecrecy n q =
    (ℓ : ℕ) → ℓ < n → (bits bits' : List ℕ) → checked (sharing_checks n q bits) ≡ accepted tt → checked (sharing_checks n q bits') ≡ accepted tt
    → Indistinguishable (Full q (bit_words n)) (λ words words'. (before behind out out' : List ℕ) → n ≤ length out → n ≤ length out'
    → AlikeBut ℓ n q (length before + bit_words n) (bit_shares n q bits words) (xor_all bits) (converted n q bits (between before words behind) (length before) out) (bit_shares n q bits' words') (xor_all bits') (converted n q bits' (between before words' behind) (length before) out'))
