use Rattle.std.proofs.Common.{◌≡◌, ap, ap₂, ◌∙◌, List, ℕ, ◌≤◌, ◌<◌, ◌^◌, arith}
use lib.IntN.{nat_abs}
use lib.Signed.{mag}
use mir.Syntax.{w32}
use mir.Val.{to_z, of_z}
use Rattle.std.specs.Prelude.{Ok}
use Rattle.residue.proofs.Signed.{read_back}
use Rattle.tally.specs.declared.Tally.{Tally}
use Rattle.tally.specs.OneMore.{with_one}
use Rattle.lesson_file.specs.Records.{Sample, sample_of, layout_at}
use Rattle.lesson_samples.specs.Lesson.{value_of}
use Rattle.lesson_samples.specs.Call.{SampleBuffers, held}
use Rattle.lesson_samples.specs.CallLaws.{buffers_begun, buffers_then}
use Rattle.lesson_samples.specs.SampleLaws.{value-small}
use Rattle.lesson_samples.specs.Walk as walk
use Rattle.lesson_samples.specs.declared.Sampled.{Sampled}
use Rattle.lesson_samples.proofs.Step.{Step, refused-walk, advanced-walk, whole, fit, made, later}
use Rattle.report.proofs.Progress.{Progress, begun, finished, count_room, advanced}
use Rattle.report.proofs.read_samples.Goals as goal
use Rattle.report.proofs.read_samples.Goals.{After-next_sample}

-- where a sample was read: the file, the sample, and the buffers before and after it
module _ (d : After-next_sample) where
  abbrev file : List ℕ
  file = d.args.file.now

  abbrev sample : Sample
  sample = sample_of file (layout_at file d.loop-cursor.cursor.at)

  abbrev first : SampleBuffers
  first = held d.args.buffers.now

  abbrev before : SampleBuffers
  before = held d.loop-cursor.buffers

  abbrev after : SampleBuffers
  after = held d.next_sample.new.buffers

  progress : Progress file first before d.loop-cursor.tally d.loop-cursor.cursor.at
  progress = d.loop-cursor.invariant.0

  step : Step file first before after progress.done d.loop-cursor.cursor.at d.next_sample.result
  step = record { walked = progress.walk; unended = d.loop-cursor-test.true; answered = d.next_sample.ensures.0 }

  module _ (m : Sampled) (e : d.next_sample.result ≡ Ok m) where
    small : nat_abs (value_of sample) ≤ 16
    small = value-small file _ (whole step e) (fit step e)

    -- the value is the sample's when `add` reads it
    read : mag m.value < 2 ^ 31 → to_z w32 (of_z w32 m.value) ≡ value_of sample
    read f = read_back m.value f ∙ ap (λ m. m.value) (made step e)

    added : (t : Tally) → mag m.value < 2 ^ 31 → t ≡ with_one d.loop-cursor.tally m.parameters.k (to_z w32 (of_z w32 m.value)) → t ≡ with_one d.loop-cursor.tally sample.k (value_of sample)
    unfolding sample_of
    added t f h = h ∙ ap₂ (with_one d.loop-cursor.tally) (ap (λ m. m.parameters.k) (made step e)) (read f)

pub loop-cursor-init : goal.loop-cursor-init
loop-cursor-init c = (begun _ _ _ c.empty-tally.ensures, buffers_begun _)

pub returns-in-Err : goal.returns-in-Err
returns-in-Err c =
    let d = (goal.at.returns-in-Err c).After-next_sample in
    let f = finished _ _ _ _ _ (progress d) _ _ (refused-walk (step d) c.in-Err.is) in
    (f.0, buffers_then c.loop-cursor.invariant.1 c.next_sample.ensures.1, f.1, f.2)

pub add-requires : goal.add-requires
add-requires c =
    let d = (goal.at.add-requires c).After-next_sample in
    let e = c.in-Ok.is in
    (rw (read d _ e (omega arith)) (small d _ e), count_room _ _ _ _ _ (progress d) (sample d) _ _ (advanced-walk (step d) e))

pub loop-cursor-smaller : goal.loop-cursor-smaller
loop-cursor-smaller c =
    let d = (goal.at.loop-cursor-smaller c).After-next_sample in
    omega (arith, later (step d) c.in-Ok.is, (step d).unended)

pub loop-cursor-preserved : goal.loop-cursor-preserved
loop-cursor-preserved c =
    let d = (goal.at.loop-cursor-preserved c).After-next_sample in
    let e = c.in-Ok.is in
    (advanced _ _ _ _ _ (progress d) (sample d) _ _ (advanced-walk (step d) e) _ (added d _ e _ (omega arith) c.add.ensures) (small d _ e), buffers_then c.loop-cursor.invariant.1 c.next_sample.ensures.1)

pub returns : goal.returns
returns c =
    let g = c.loop-cursor.invariant.0 in
    let f = finished _ _ _ _ _ g _ _ (walk.ended _ _ _ _ _ g.walk c.loop-cursor-test.false) in
    (f.0, c.loop-cursor.invariant.1, f.1, f.2)
