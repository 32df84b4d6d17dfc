-- Demand 3 for whole polynomials (document 02, A.1): n − 1 shares of each coefficient tell nothing, whichever is left out in each.
-- Shares are counted from 0 here, from 1 on the page.
use Rattle.std.specs.Prelude.{◌≡◌, List, ℕ, ◌*◌, ◌<◌}
use Rattle.buffers.specs.Positions.{block}
use Rattle.checks.specs.Checks.{Outcome, accepted, checked}
use Rattle.secrecy.specs.Secrecy.{Full, Indistinguishable, AgreeBut}
use Rattle.totals.specs.Sample.{sample_words}
use Rattle.sampler.specs.Sampler.{Buffers}
use Rattle.sampler.specs.Secrecy.{SharesOf, Room}
use Rattle.polynomial.specs.Polynomial.{polynomial_words, strings_checks, sampled_polynomial}

-- The outcome of an accepted call: m × W as the count, and in each coefficient the shares of its own x and y.
pub record Polynomial (n k q m : ℕ) (x y words : List ℕ) (o : Outcome ℕ Buffers) : Type 0 where
  pub count : o.answer ≡ accepted (polynomial_words n k m)
  pub coefficient : (t : ℕ) → t < m → SharesOf n k q (block n t x) (block n t y) (block (sample_words n k) t words) (block n t o.buffers.out)

-- Two such outcomes that agree, in each coefficient t, in every share but ℓ t.
pub record AlikeBut (ℓ : ℕ → ℕ) (n k q m : ℕ) (x y words : List ℕ) (o : Outcome ℕ Buffers) (x' y' words' : List ℕ) (o' : Outcome ℕ Buffers) : Type 0 where
  pub one : Polynomial n k q m x y words o
  pub other : Polynomial n k q m x' y' words' o'
  pub agree : (t : ℕ) → t < m → AgreeBut (ℓ t) n (block n t o.buffers.out) (block n t o'.buffers.out)

-- For every choice of a share left out in each coefficient and any two pairs of lists that pass the checks down to 7: a one-to-one map of the
-- full lists of words makes the two calls alike in all other shares, whatever stood in their buffers before.
unfoldable pub PolynomialSecrecy : ℕ → ℕ → ℕ → ℕ → Type 0
PolynomialSecrecy n k q m =
    (ℓ : ℕ → ℕ) → ((t : ℕ) → t < m → ℓ t < n) → (x y x' y' : List ℕ) → checked (strings_checks n k q m x y) ≡ accepted tt → checked (strings_checks n k q m x' y') ≡ accepted tt
    → Indistinguishable (Full q (polynomial_words n k m)) (λ words words'. (out work out' work' : List ℕ) → Room (m * n) n out work → Room (m * n) n out' work'
    → AlikeBut ℓ n k q m x y words (sampled_polynomial n k q m x y words out work) x' y' words' (sampled_polynomial n k q m x' y' words' out' work'))
