-- Demand 3 for whole polynomials, proved: each coefficient's block of words has a map of its own, that of its sample.
use Rattle.std.specs.Prelude.{ℕ, ◌*◌}
use Rattle.buffers.specs.Positions.{block}
use Rattle.checks.specs.Laws.{accepted-holds}
use Rattle.conversion.specs.Arrays.{full_drawn}
use Rattle.secrecy.specs.Secrecy.{AgreeBut}
use Rattle.secrecy.proofs.Laws.{weaken}
use Rattle.secrecy.proofs.Blocks.{blocks}
use Rattle.totals.specs.Sample.{sample_shares, sample_words}
use Rattle.sampler.specs.Accepted.{pair-large, fit-holds}
use Rattle.sampler.proofs.SecrecyProof.{shares-secrecy}
use Rattle.polynomial.specs.Polynomial.{coefficient_shares, polynomial_words, strings_checks}
use Rattle.polynomial.specs.Secrecy.{PolynomialSecrecy}
use Rattle.polynomial.specs.Accepted.{shared_strings, first-pair}
use Rattle.polynomial.specs.Calls.{call-coefficient, call_polynomial}

pub secrecy : (n k q m : ℕ) → PolynomialSecrecy n k q m
unfolding PolynomialSecrecy coefficient_shares
secrecy n k q m ℓ left_out x y x' y' a a' =
    let h = accepted-holds tt tt (strings_checks n k q m x y) a in
    let h' = accepted-holds tt tt (strings_checks n k q m x' y') a' in
    let P = first-pair (shared_strings n k q m x y h) in
    weaken
    (λ v w f g same out work out' work' r r'.
    let c = fit-holds (strings_checks n k q m x y) 0 (polynomial_words n k m) q v (m * n) n out work h (full_drawn f) r in
    let c' = fit-holds (strings_checks n k q m x' y') 0 (polynomial_words n k m) q w (m * n) n out' work' h' (full_drawn g) r' in
    record {
      one = call_polynomial n k q m x y v out work c;
      other = call_polynomial n k q m x' y' w out' work' c';
      agree = λ t l. rw (call-coefficient n k q m x y v out work c t l, call-coefficient n k q m x' y' w out' work' c' t l) (same t l);
    })
    (blocks q (sample_words n k) m (λ t v w. AgreeBut (ℓ t) n (sample_shares n k q (block n t x) (block n t y) v) (sample_shares n k q (block n t x') (block n t y') w))
    (λ t l. shares-secrecy n k q (ℓ t) (pair-large P) P.one (left_out t l) (block n t x) (block n t y) (block n t x') (block n t y')))
