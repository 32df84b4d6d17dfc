-- The checks' verdict; a refusal comes before anything is written, and behind the checks all is ready for the sample and its records.
use mathlib.Core.Path.{◌≡◌, refl, sym, ap, ap₂, ◌∙◌}
use mathlib.Core.List.{List, [], ◌∷◌}
use Prim.Native.Nat.{ℕ, ◌*◌, ◌≤◌}
use native.Mathlib.Omega.{arith}
use borrow.Author.Tests.{leb-true}
use lib.ListN.{length}
use borrow.Author.Rules.{rules}
use Rattle.buffers.specs.Overwrite.{overwrite}
use Rattle.buffers.specs.Positions.{at, Same}
use Rattle.buffers.specs.PositionLaws.{front_same, front-zeros}
use Rattle.checks.specs.Checks.{Outcome}
use Rattle.checks.specs.Laws.{Hold, hold-front, hold-rest}
use Rattle.checks.proofs.Settles.{checks-hold, settles_accepted, settles_refused}
use Rattle.checks.specs.Answers.{outcome}
use Rattle.std.specs.Prelude.{Ok}
use Rattle.conversion.specs.Arrays.{Drawn}
use Rattle.totals.specs.Sample.{sample_words}
use Rattle.sampler.specs.Sampler.{Buffers, both, pair_checks, sample_checks, sampled}
use Rattle.sampler.specs.Secrecy.{Room}
use Rattle.sampler.specs.Accepted as sampler
use Rattle.sampler.specs.Accepted.{SharedPair, shared_pair, pair-large, fit_drawn, fit-room, call-checks}
use Rattle.sampler.proofs.Calls.{shares_local, call-accepted}
use Rattle.records.specs.Records.{Step, record_bytes, bytes}
use Rattle.steps.specs.Steps.{step_records, record_count}
use Rattle.steps.specs.Laws.{sample_steps-same}
use Rattle.steps.specs.Count.{record_count_lem}
use Rattle.sample_steps.specs.SampleSteps.{record_room, lists, steps_sampled}
use Rattle.sample_steps.proofs.sample_steps.Goals as goal
use Rattle.sample_steps.proofs.sample_steps.Goals.{After-write_steps, In_ok-check_steps}

-- the checks of the sampler held, and 26
sampling : (c : In_ok-check_steps) → let a = c.args in Hold (sample_checks a.n a.k a.q a.x.now a.y.now a.words.now 0 (length a.out.now) (length a.work.now))
sampling c =
    let a = c.args in
    hold-front (sample_checks a.n a.k a.q a.x.now a.y.now a.words.now 0 (length a.out.now) (length a.work.now)) (record_room (record_count a.n a.k) (length a.records.now) ∷ []) (checks-hold _ _ c.check_steps.ensures c.in_ok-check_steps.was)

bytes-room : (c : In_ok-check_steps) → let a = c.args in record_bytes * record_count a.n a.k ≤ length a.records.now
bytes-room c =
    let a = c.args in
    leb-true _ _ (hold-rest (sample_checks a.n a.k a.q a.x.now a.y.now a.words.now 0 (length a.out.now) (length a.work.now)) (record_room (record_count a.n a.k) (length a.records.now) ∷ []) (checks-hold _ _ c.check_steps.ensures c.in_ok-check_steps.was)).0

-- what follows from the sampler's checks
module _ (c : In_ok-check_steps) (h : let a = c.args in Hold (sample_checks a.n a.k a.q a.x.now a.y.now a.words.now 0 (length a.out.now) (length a.work.now))) where
  pair : let a = c.args in SharedPair a.n a.k a.q a.x.now a.y.now
  pair = let a = c.args in shared_pair _ _ _ _ _ (call-checks _ _ _ _ _ _ 0 a.out.now a.work.now h)

  drawn : let a = c.args in Drawn a.q 0 (sample_words a.n a.k) a.words.now
  drawn = let a = c.args in fit_drawn (pair_checks a.n a.k a.q a.x.now a.y.now) _ _ _ _ _ _ a.out.now a.work.now h

  room : let a = c.args in Room a.n a.n a.out.now a.work.now
  room = let a = c.args in fit-room (pair_checks a.n a.k a.q a.x.now a.y.now) 0 (sample_words a.n a.k) a.q a.words.now _ _ a.out.now a.work.now h

sizes : {n k q : ℕ} {x y : List ℕ} → SharedPair n k q x y → sampler.Small n k
sizes p = sampler.small _ _ p.eight p.sixteen

module _ (c : After-write_steps) (p : let a = c.args in SharedPair a.n a.k a.q a.x.now a.y.now) where
  -- the shares of x and y stand in front of the arrays
  x-front : let a = c.args in Same a.n (at c.copy_eight.new.to) (at a.x.now)
  x-front i l = front_same _ c.args.x.now _ 8 c.copy_eight.ensures (omega (arith, p.x-count, p.eight)) i (omega (arith, p.x-count))

  y-front : let a = c.args in Same a.n (at c.copy_eight-2.new.to) (at a.y.now)
  y-front i l = front_same _ c.args.y.now _ 8 c.copy_eight-2.ensures (omega (arith, p.y-count, p.eight)) i (omega (arith, p.y-count))

  -- output and work area are the sampler's, and the records those of x and y
  left : let a = c.args in Hold (sample_checks a.n a.k a.q a.x.now a.y.now a.words.now 0 (length a.out.now) (length a.work.now)) → both c.write_steps.new.out c.write_steps.new.work ≡ (sampled a.n a.k a.q a.x.now a.y.now a.words.now 0 a.out.now a.work.now).buffers
  left h =
      let a = c.args in
      let e = c.write_steps.ensures in
      ap₂ both (e.0 ∙ ap (overwrite a.out.now 0) (shares_local a.n a.k a.q (pair-large p) _ a.x.now _ a.y.now _ _ x-front y-front (λ i l. refl))) (e.1 ∙ c.zero.ensures)
      ∙ sym (ap (λ (o : Outcome ℕ Buffers). o.buffers) (call-accepted a.n a.k a.q a.x.now a.y.now a.words.now 0 a.out.now a.work.now h))

  recorded : let a = c.args in c.write_steps.new.records ≡ overwrite a.records.now 0 (bytes (step_records a.n a.k a.q a.x.now a.y.now a.words.now))
  recorded =
      let a = c.args in
      c.write_steps.ensures.2
      ∙ ap (λ (l : List Step). overwrite a.records.now 0 (bytes l)) (sample_steps-same a.q a.n a.k (pair-large p) _ (at a.x.now) _ (at a.y.now) (at a.words.now) (at a.words.now) x-front y-front (λ i l. refl))

pub returns-in_err-check_steps : goal.returns-in_err-check_steps
unfolding steps_sampled
returns-in_err-check_steps c = settles_refused _ _ c.check_steps.ensures _ _ _ _ c.in_err-check_steps.was c.from_residual.ensures.1

pub zero-requires : goal.zero-requires
zero-requires c = ((pair (goal.at.zero-requires c).In_ok-check_steps (sampling (goal.at.zero-requires c).In_ok-check_steps)).eight, (room (goal.at.zero-requires c).In_ok-check_steps (sampling (goal.at.zero-requires c).In_ok-check_steps)).1)

pub write_steps-requires : goal.write_steps-requires
write_steps-requires c =
    let a = c.args in
    let p = pair (goal.at.write_steps-requires c).In_ok-check_steps (sampling (goal.at.write_steps-requires c).In_ok-check_steps) in
    let r = room (goal.at.write_steps-requires c).In_ok-check_steps (sampling (goal.at.write_steps-requires c).In_ok-check_steps) in (
      p.two,
      p.eight,
      p.sixteen,
      record { large = pair-large p; small = omega (arith, c.ranges) },
      drawn (goal.at.write_steps-requires c).In_ok-check_steps (sampling (goal.at.write_steps-requires c).In_ok-check_steps),
      r.0,
      search rules,
      (λ i h. ap (λ (l : List ℕ). at l i) c.zero.ensures ∙ front-zeros _ _ i h),
      record { room = omega (arith, record_count_lem a.n a.k a.q c.copy_eight.new.to c.copy_eight-2.new.to a.words.now, bytes-room (goal.at.write_steps-requires c).In_ok-check_steps) },
    )

pub overflow_mul-result : goal.overflow_mul-result
overflow_mul-result c = omega (arith, (sizes (pair (goal.at.overflow_mul-result c).In_ok-check_steps (sampling (goal.at.overflow_mul-result c).In_ok-check_steps))).bits)

pub overflow_sub-result : goal.overflow_sub-result
overflow_sub-result c = omega (arith, (pair (goal.at.overflow_sub-result c).In_ok-check_steps (sampling (goal.at.overflow_sub-result c).In_ok-check_steps)).two)

pub overflow_mul-result-2 : goal.overflow_mul-result-2
overflow_mul-result-2 c = omega (arith, (sizes (pair (goal.at.overflow_mul-result-2 c).In_ok-check_steps (sampling (goal.at.overflow_mul-result-2 c).In_ok-check_steps))).per)

pub overflow_mul-result-3 : goal.overflow_mul-result-3
overflow_mul-result-3 c = omega (arith, (sizes (pair (goal.at.overflow_mul-result-3 c).In_ok-check_steps (sampling (goal.at.overflow_mul-result-3 c).In_ok-check_steps))).words)

pub returns : goal.returns
unfolding steps_sampled
returns c =
    let a = c.args in
    let there = (goal.at.returns c).In_ok-check_steps in
    let done = (goal.at.returns c).After-write_steps in
    let h = sampling there in
    let p = pair there h in
    ap₂ (λ (b : Buffers) (r : List ℕ). outcome (Ok (sample_words a.n a.k)) (lists b r)) (left done p h) (recorded done p)
    ∙ settles_accepted _ _ c.check_steps.ensures (sample_words a.n a.k) (lists (both a.out.now a.work.now) a.records.now) _ c.in_ok-check_steps.was
