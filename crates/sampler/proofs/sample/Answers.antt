-- The checks' verdict; a refusal comes before anything is written, and behind the checks all is ready for the sample.
use mathlib.Core.Path.{◌≡◌, refl, ap, ◌∙◌}
use mathlib.Core.List.{List}
use Prim.Native.Nat.{ℕ, ◌+◌}
use native.Mathlib.Omega.{arith}
use lib.ListN.{drop}
use borrow.Author.Rules.{rules}
use Rattle.buffers.specs.Overwrite.{overwrite}
use Rattle.buffers.specs.Positions.{at}
use Rattle.buffers.specs.PositionLaws.{front_same, front-zeros}
use Rattle.conversion.specs.Arrays.{Drawn}
use Rattle.checks.proofs.Settles.{checks-hold, settles_accepted, settles_refused}
use Rattle.totals.specs.Sample.{sample_words, sample_shares}
use Rattle.sampler.specs.Sampler.{pair_checks, both, sampled}
use Rattle.sampler.specs.Secrecy.{Room}
use Rattle.sampler.specs.Accepted.{SharedPair, shared_pair, pair-large, fit_drawn, fit-room, call-checks}
use Rattle.sampler.proofs.Calls.{shares_local}
use Rattle.sampler.proofs.Written.{answered}
use Rattle.sampler.proofs.SecrecyProof.{secrecy}
use Rattle.sampler.proofs.sample.Goals as goal
use Rattle.sampler.proofs.sample.Goals.{After-write_sample, In_ok-check_sample}

pair : (c : In_ok-check_sample) → let a = c.args in SharedPair a.n a.k a.q a.x.now a.y.now
pair c = let a = c.args in shared_pair _ _ _ _ _ (call-checks _ _ _ _ _ _ a.start a.out.now a.work.now ((checks-hold _ _ c.check_sample.ensures c.in_ok-check_sample.was)))

drawn : (c : In_ok-check_sample) → let a = c.args in Drawn a.q a.start (sample_words a.n a.k) a.words.now
drawn c = let a = c.args in fit_drawn (pair_checks a.n a.k a.q a.x.now a.y.now) _ _ _ _ _ _ a.out.now a.work.now ((checks-hold _ _ c.check_sample.ensures c.in_ok-check_sample.was))

room : (c : In_ok-check_sample) → let a = c.args in Room a.n a.n a.out.now a.work.now
room c = let a = c.args in fit-room (pair_checks a.n a.k a.q a.x.now a.y.now) a.start (sample_words a.n a.k) a.q a.words.now _ _ a.out.now a.work.now ((checks-hold _ _ c.check_sample.ensures c.in_ok-check_sample.was))

-- the shares stand in front of the arrays
gathered : (c : After-write_sample) → let a = c.args in SharedPair a.n a.k a.q a.x.now a.y.now → c.write_sample.new.out ≡ overwrite a.out.now 0 (sample_shares a.n a.k a.q a.x.now a.y.now (drop a.start a.words.now))
gathered c p =
    let a = c.args in
    let x = front_same _ a.x.now _ 8 c.copy_eight.ensures (omega (arith, p.x-count, p.eight)) in
    let y = front_same _ a.y.now _ 8 c.copy_eight-2.ensures (omega (arith, p.y-count, p.eight)) in
    c.write_sample.ensures.0
    ∙ ap (overwrite a.out.now 0) (shares_local a.n a.k a.q (pair-large p) _ a.x.now _ a.y.now _ _ (λ i l. x i (omega (arith, p.x-count))) (λ i l. y i (omega (arith, p.y-count))) (λ i l. refl))

pub returns-in_err-check_sample : goal.returns-in_err-check_sample
unfolding sampled
returns-in_err-check_sample c = record { work_after = settles_refused _ _ c.check_sample.ensures _ _ _ _ c.in_err-check_sample.was c.from_residual.ensures.1; secrecy = secrecy _ _ _ }

pub zero-requires : goal.zero-requires
zero-requires c = ((pair (goal.at.zero-requires c).In_ok-check_sample).eight, (room (goal.at.zero-requires c).In_ok-check_sample).1)

pub write_sample-requires : goal.write_sample-requires
write_sample-requires c =
    let p = pair (goal.at.write_sample-requires c).In_ok-check_sample in
    let r = room (goal.at.write_sample-requires c).In_ok-check_sample in (
      p.two,
      p.eight,
      p.sixteen,
      record { large = pair-large p; small = omega arith },
      drawn (goal.at.write_sample-requires c).In_ok-check_sample,
      r.0,
      search rules,
      (λ i h. ap (λ (l : List ℕ). at l i) c.zero.ensures ∙ front-zeros _ _ i h),
    )

pub returns : goal.returns
unfolding sampled
returns c =
    let a = c.args in
    let e = c.write_sample.ensures in record {
      work_after = answered e.2 (gathered (goal.at.returns c).After-write_sample (pair (goal.at.returns c).In_ok-check_sample)) (e.1 ∙ c.zero.ensures)
          ∙ settles_accepted _ _ c.check_sample.ensures (a.start + sample_words a.n a.k) (both a.out.now a.work.now) _ c.in_ok-check_sample.was;
      secrecy = secrecy _ _ _;
    }
