-- Demand 3: n − 1 shares of a sample tell nothing (document 01, 'The rule about n − 1 shares').
-- Shares are counted from 0 here, from 1 on the page.
use Rattle.std.specs.Prelude.{◌≡◌, List, ℕ, ◌+◌, ◌≤◌, ◌<◌, length, take}
use Rattle.residue.specs.Residue.{reduce, reduceℤ, total}
use Rattle.checks.specs.Checks.{Outcome, accepted, checked}
use Rattle.masking.specs.Sharing.{xor_all}
use Rattle.binomial.specs.Signed.{difference_of_weights}
use Rattle.secrecy.specs.Secrecy.{Full, between, Indistinguishable, AgreeBut}
use Rattle.totals.specs.Sample.{sample_words, sample_shares}
use Rattle.sampler.specs.Sampler.{Buffers, pair_checks, sampled}

-- The n shares are those of the written steps; their residue is the weight of x less the weight of y, modulo q.
pub record SharesOf (n k q : ℕ) (x y words shares : List ℕ) : Type 0 where
  pub steps : shares ≡ sample_shares n k q x y words
  pub residue : reduce q (total shares) ≡ reduceℤ q (difference_of_weights (xor_all x) (xor_all y))

-- The outcome of an accepted call whose own words are the list `words`, which stands from `start` on: the position after it, and shares of the
-- call's own x and y.
pub record Samples (n k q : ℕ) (x y words : List ℕ) (start : ℕ) (o : Outcome ℕ Buffers) : Type 0 where
  pub end : o.answer ≡ accepted (start + sample_words n k)
  pub shares : SharesOf n k q x y words (take n o.buffers.out)

-- Two such outcomes that agree in every share but ℓ.
pub record AlikeBut (ℓ n k q start : ℕ) (x y words : List ℕ) (o : Outcome ℕ Buffers) (x' y' words' : List ℕ) (o' : Outcome ℕ Buffers) : Type 0 where
  pub one : Samples n k q x y words start o
  pub other : Samples n k q x' y' words' start o'
  pub agree : AgreeBut ℓ n o.buffers.out o'.buffers.out

-- room for the shares and for the zeros, whatever stands there
abbrev pub Room : ℕ → ℕ → List ℕ → List ℕ → Type 0
Room shares zeros out work = (shares ≤ length out) × (zeros ≤ length work)

-- For every share ℓ left out and any two pairs of shared strings that pass the checks 1 to 7: a one-to-one map of the full lists of words
-- makes the two calls alike in all other shares, whatever words stand before and behind them, the same in both, and whatever stood in their
-- buffers before.
unfoldable pub Secrecy : ℕ → ℕ → ℕ → Type 0
Secrecy n k q =
    (ℓ : ℕ) → ℓ < n → (x y x' y' : List ℕ) → checked (pair_checks n k q x y) ≡ accepted tt → checked (pair_checks n k q x' y') ≡ accepted tt
    → Indistinguishable (Full q (sample_words n k)) (λ words words'. (before behind out work out' work' : List ℕ) → Room n n out work → Room n n out' work'
    → AlikeBut ℓ n k q (length before) x y words (sampled n k q x y (between before words behind) (length before) out work) x' y' words' (sampled n k q x' y' (between before words' behind) (length before) out' work'))
