-- The checks' verdict; a refusal comes before anything is written, and behind the checks all is ready for the samples.
use mathlib.Core.Path.{ap, ◌∙◌}
use mathlib.Core.List.{List}
use Prim.Native.Nat.{ℕ, ◌*◌}
use native.Mathlib.Omega.{arith}
use borrow.Author.Rules.{rules}
use Rattle.checks.proofs.Settles.{checks-hold, settles_accepted, settles_refused}
use Rattle.buffers.specs.Positions.{at}
use Rattle.buffers.specs.PositionLaws.{front-zeros}
use Rattle.conversion.specs.Arrays.{Drawn}
use Rattle.sampler.specs.Sampler.{both}
use Rattle.sampler.specs.Secrecy.{Room}
use Rattle.sampler.specs.Accepted.{pair-large, fit_drawn, fit-room}
use Rattle.sampler.proofs.Written.{answered}
use Rattle.polynomial.specs.Polynomial.{polynomial_words, strings_checks, sampled_polynomial}
use Rattle.polynomial.specs.Accepted.{SharedStrings, first-pair, call-strings}
use Rattle.polynomial.specs.SecrecyProof.{secrecy}
use Rattle.polynomial.proofs.sample_polynomial.Goals as goal
use Rattle.polynomial.proofs.sample_polynomial.Goals.{In_ok-check_polynomial}

strings : (c : In_ok-check_polynomial) → let a = c.args in SharedStrings a.n a.k a.q a.m a.x.now a.y.now
strings c = let a = c.args in call-strings _ _ _ _ _ _ _ a.out.now a.work.now ((checks-hold _ _ c.check_polynomial.ensures c.in_ok-check_polynomial.was))

drawn : (c : In_ok-check_polynomial) → let a = c.args in Drawn a.q 0 (polynomial_words a.n a.k a.m) a.words.now
drawn c = let a = c.args in fit_drawn (strings_checks a.n a.k a.q a.m a.x.now a.y.now) _ _ _ _ _ _ a.out.now a.work.now ((checks-hold _ _ c.check_polynomial.ensures c.in_ok-check_polynomial.was))

room : (c : In_ok-check_polynomial) → let a = c.args in Room (a.m * a.n) a.n a.out.now a.work.now
room c = let a = c.args in fit-room (strings_checks a.n a.k a.q a.m a.x.now a.y.now) 0 (polynomial_words a.n a.k a.m) a.q a.words.now _ _ a.out.now a.work.now ((checks-hold _ _ c.check_polynomial.ensures c.in_ok-check_polynomial.was))

pub returns-in_err-check_polynomial : goal.returns-in_err-check_polynomial
unfolding sampled_polynomial
returns-in_err-check_polynomial c = record { work_after = settles_refused _ _ c.check_polynomial.ensures _ _ _ _ c.in_err-check_polynomial.was c.from_residual.ensures.1; secrecy = secrecy _ _ _ _ }

pub zero-requires : goal.zero-requires
zero-requires c = ((first-pair (strings (goal.at.zero-requires c).In_ok-check_polynomial)).eight, (room (goal.at.zero-requires c).In_ok-check_polynomial).1)

pub write_coefficients-requires : goal.write_coefficients-requires
write_coefficients-requires c =
    let S = strings (goal.at.write_coefficients-requires c).In_ok-check_polynomial in
    let p = first-pair S in (
      p.two,
      p.eight,
      p.sixteen,
      record { large = pair-large p; small = omega arith },
      S.x-count,
      S.y-count,
      drawn (goal.at.write_coefficients-requires c).In_ok-check_polynomial,
      (room (goal.at.write_coefficients-requires c).In_ok-check_polynomial).0,
      (let r = (room (goal.at.write_coefficients-requires c).In_ok-check_polynomial).1 in search rules),
      (λ i h. ap (λ (l : List ℕ). at l i) c.zero.ensures ∙ front-zeros _ _ i h),
    )

pub returns : goal.returns
unfolding sampled_polynomial
returns c =
    let a = c.args in
    let e = c.write_coefficients.ensures in record {
      work_after = answered e.2 e.0 (e.1 ∙ c.zero.ensures)
          ∙ settles_accepted _ _ c.check_polynomial.ensures (polynomial_words a.n a.k a.m) (both a.out.now a.work.now) _ c.in_ok-check_polynomial.was;
      secrecy = secrecy _ _ _ _;
    }
