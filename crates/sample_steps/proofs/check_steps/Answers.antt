-- Checks 1 to 11 refuse, or 26 decides.
use mathlib.Core.Path.{◌≡◌, sym, ◌∙◌}
use mathlib.Core.List.{[], ◌∷◌}
use native.Mathlib.Omega.{arith}
use borrow.Author.Tests.{le-leb, lt-leb}
use Rattle.checks.specs.Checks.{checked, buffer_checks}
use Rattle.checks.specs.Laws.{hold-front, pass, fail, pass_all}
use Rattle.checks.proofs.Settles.{checks-hold, part_passed, part_refused}
use Rattle.totals.specs.Sample.{sample_words}
use Rattle.sampler.specs.Sampler.{pair_checks}
use Rattle.sampler.specs.Accepted.{SharedPair, shared_pair}
use Rattle.steps.specs.Steps.{record_count}
use Rattle.sample_steps.specs.SampleSteps.{record_room, step_checks}
use Rattle.sample_steps.proofs.Steps.{Small, small}
use Rattle.sample_steps.proofs.check_steps.Goals as goal
use Rattle.sample_steps.proofs.check_steps.Goals.{In_ok-check_sample}

pair : (c : In_ok-check_sample) → let a = c.args in SharedPair a.n a.k a.q a.x.now a.y.now
pair c = let a = c.args in shared_pair _ _ _ _ _ (hold-front (pair_checks a.n a.k a.q a.x.now a.y.now) (buffer_checks 0 (sample_words a.n a.k) a.q a.words.now a.n a.room a.n a.area) (checks-hold _ _ c.check_sample.ensures c.in_ok-check_sample.was))

sizes : (c : In_ok-check_sample) → let a = c.args in Small a.n a.k
sizes c = let p = (let a = c.args in shared_pair _ _ _ _ _ (hold-front (pair_checks a.n a.k a.q a.x.now a.y.now) (buffer_checks 0 (sample_words a.n a.k) a.q a.words.now a.n a.room a.n a.area) (checks-hold _ _ c.check_sample.ensures c.in_ok-check_sample.was))) in small _ _ p.two p.eight p.sixteen

-- 26 is left
past : (c : In_ok-check_sample) → let a = c.args in checked (step_checks a.n a.k a.q a.x.now a.y.now a.words.now a.room a.area a.size) ≡ checked (record_room (record_count a.n a.k) a.size ∷ [])
past c = part_passed _ _ c.check_sample.ensures tt _ c.in_ok-check_sample.was

pub returns-in_err-check_sample : goal.returns-in_err-check_sample
returns-in_err-check_sample c = part_refused _ _ c.check_sample.ensures tt _ _ c.in_err-check_sample.was c.from_residual.ensures.1

pub overflow_mul-per : goal.overflow_mul-per
overflow_mul-per c = omega (arith, (pair c).eight)

pub overflow_add-per : goal.overflow_add-per
overflow_add-per c = omega (arith, (pair c).eight)

pub overflow_mul-per-2 : goal.overflow_mul-per-2
overflow_mul-per-2 c = omega (arith, (sizes c).most)

pub overflow_sub-per : goal.overflow_sub-per
overflow_sub-per c = omega (arith, (sizes c).least)

pub overflow_mul-k : goal.overflow_mul-k
overflow_mul-k c = omega (arith, (pair c).sixteen)

pub overflow_mul-k-2 : goal.overflow_mul-k-2
overflow_mul-k-2 c = omega (arith, (sizes c).records)

pub overflow_mul-k-3 : goal.overflow_mul-k-3
overflow_mul-k-3 c = omega (arith, (sizes c).records)

pub returns-then-size-k : goal.returns-then-size-k
returns-then-size-k c = (rw c.into.ensures at c.refuse.ensures) ∙ sym (past (goal.at.returns-then-size-k c).In_ok-check_sample ∙ fail tt _ _ (lt-leb _ _ c.if-size-k.true))

pub returns : goal.returns
returns c = sym (past (goal.at.returns c).In_ok-check_sample ∙ pass tt _ _ (le-leb _ _ c.if-size-k.false) ∙ pass_all tt)
