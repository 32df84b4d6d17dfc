-- Whole polynomials (document 02, A.1): m samples in one call. Every list holds coefficient after coefficient.
use Rattle.std.specs.Prelude.{List, ◌∷◌, ◌++◌, ℕ, ◌*◌, length}
use Rattle.buffers.specs.Positions.{at, rows, block}
use Rattle.checks.specs.Checks.{Check, Outcome, within, parameter_checks, share_checks, buffer_checks}
use Rattle.totals.specs.Sample.{sample_shares, sample_words}
use Rattle.sampler.specs.Sampler.{Buffers, shares_written}

-- ---- the samples

-- coefficient t: a sample of the blocks t of x, y and the words
unfoldable pub coefficient_shares : ℕ → ℕ → ℕ → List ℕ → List ℕ → List ℕ → ℕ → List ℕ
coefficient_shares n k q x y words t = sample_shares n k q (block n t x) (block n t y) (block (sample_words n k) t words)

unfoldable pub polynomial_shares : ℕ → ℕ → ℕ → ℕ → List ℕ → List ℕ → List ℕ → List ℕ
polynomial_shares n k q m x y words = rows m n (λ t. at (coefficient_shares n k q x y words t))

-- ---- the call

-- m × W: how many words a polynomial takes
abbrev pub polynomial_words : ℕ → ℕ → ℕ → ℕ
polynomial_words n k m = m * sample_words n k

-- 23: m is from 1 to 256
abbrev pub coefficient_count : ℕ → Check
coefficient_count m = record { holds = within 1 256 m; code = 23; position = 0 }

-- the checks of the shared strings of all coefficients, down to 7
abbrev pub strings_checks : ℕ → ℕ → ℕ → ℕ → List ℕ → List ℕ → List Check
strings_checks n k q m x y = parameter_checks n k q ++ (coefficient_count m ∷ share_checks (m * n) k x y)

-- the work area is that of one sample
abbrev pub polynomial_checks : ℕ → ℕ → ℕ → ℕ → List ℕ → List ℕ → List ℕ → ℕ → ℕ → List Check
polynomial_checks n k q m x y words room area = strings_checks n k q m x y ++ buffer_checks 0 (polynomial_words n k m) q words (m * n) room n area

unfoldable pub sampled_polynomial : ℕ → ℕ → ℕ → ℕ → List ℕ → List ℕ → List ℕ → List ℕ → List ℕ → Outcome ℕ Buffers
sampled_polynomial n k q m x y words out work =
    shares_written (polynomial_checks n k q m x y words (length out) (length work)) (polynomial_words n k m) (polynomial_shares n k q m x y words) n out work
