use Rattle.std.proofs.Common.{◌≡◌, ap, ◌∙◌, List, ℕ, ◌≤◌, arith, length, take}
use Rattle.std.specs.Prelude.{Ok}
use Rattle.buffers.specs.Overwrite.{overwrite}
use Rattle.text.specs.Laws.{written_nothing}
use Rattle.lesson_file.specs.Records.{Sample, sample_of, layout_at}
use Rattle.lesson_samples.specs.Lesson.{shares_of}
use Rattle.lesson_samples.specs.Call.{SampleBuffers, held}
use Rattle.lesson_samples.specs.CallLaws.{buffers_begun, buffers_then, buffers-room}
use Rattle.lesson_samples.specs.Steps.{SampleRoom}
use Rattle.lesson_samples.specs.SampleLaws.{shares-taken, shares-fit}
use Rattle.lesson_samples.specs.Walk as walk
use Rattle.lesson_samples.specs.declared.Sampled.{Sampled}
use Rattle.lesson_samples.proofs.Step.{Step, refused-walk, advanced-walk, whole, fit, made, left, later}
use Rattle.lesson.specs.Text.{fields_line, sample_line}
use Rattle.lesson.proofs.Progress.{Progress, begun, ending-room, finished, sample-room, advanced}
use Rattle.lesson.proofs.write_samples.Goals as goal
use Rattle.lesson.proofs.write_samples.Goals.{After-next_sample}

-- where a sample was read: the file, the cursor, the sample, and the buffers before and after it
module _ (d : After-next_sample) where
  abbrev file : List ℕ
  file = d.args.file.now

  abbrev sample : Sample
  sample = sample_of file (layout_at file d.loop-cursor.cursor.at)

  abbrev first : SampleBuffers
  first = held d.args.buffers.now

  abbrev before : SampleBuffers
  before = held d.loop-cursor.buffers

  abbrev after : SampleBuffers
  after = held d.next_sample.new.buffers

  progress : Progress file first d.args.text.now before d.loop-cursor.text d.loop-cursor.cursor.at d.loop-cursor.number
  progress = d.loop-cursor.invariant.0

  step : Step file first before after progress.done d.loop-cursor.cursor.at d.next_sample.result
  step = record { walked = progress.walk; unended = d.loop-cursor-test.true; answered = d.next_sample.ensures.0 }

  room : SampleRoom (length before.words) (length before.out) (length before.work)
  room = buffers-room d.loop-cursor.invariant.1 d.requires.0

  module _ (m : Sampled) (e : d.next_sample.result ≡ Ok m) where
    out : after.out ≡ overwrite d.loop-cursor.buffers.out.now 0 (shares_of sample)
    out = ap (λ b. b.out) (left step e)

    fits : m.parameters.n ≤ length after.out
    fits = omega (arith, shares-fit file _ (whole step e) (fit step e) _ _ out room.share-room, ap (λ m. m.parameters.n) (made step e))

    line : fields_line d.loop-cursor.number m.parameters.n m.parameters.k m.parameters.q m.used m.value (take m.parameters.n after.out) ≡ sample_line d.loop-cursor.number sample
    unfolding sample_of
    line =
        ap (λ m. fields_line d.loop-cursor.number m.parameters.n m.parameters.k m.parameters.q m.used m.value (take m.parameters.n after.out)) (made step e)
        ∙ ap (fields_line d.loop-cursor.number sample.n sample.k sample.q _ _) (shares-taken file _ (whole step e) (fit step e) _ _ out)

pub loop-cursor-init : goal.loop-cursor-init
loop-cursor-init c = (begun _ _ _, buffers_begun _)

pub write_refusal-requires : goal.write_refusal-requires
write_refusal-requires c =
    let d = (goal.at.write_refusal-requires c).After-next_sample in
    ending-room _ _ _ _ _ _ _ (progress d) _ _ (refused-walk (step d) c.in-Err.is) c.requires.1

pub returns-in-Err : goal.returns-in-Err
returns-in-Err c =
    let d = (goal.at.returns-in-Err c).After-next_sample in
    let f = finished _ _ _ _ _ _ _ (progress d) _ _ (refused-walk (step d) c.in-Err.is) _ c.write_refusal.ensures in
    (f.0, buffers_then c.loop-cursor.invariant.1 c.next_sample.ensures.1, f.1)

pub shares-requires : goal.shares-requires
shares-requires c =
    let d = (goal.at.shares-requires c).After-next_sample in
    fits d _ c.in-Ok.is

pub write_line-requires : goal.write_line-requires
write_line-requires c =
    let d = (goal.at.write_line-requires c).After-next_sample in
    rw (c.shares.ensures, line d _ c.in-Ok.is) (sample-room _ _ _ _ _ _ _ (progress d) (sample d) _ _ (advanced-walk (step d) c.in-Ok.is) c.requires.1)

pub loop-cursor-smaller : goal.loop-cursor-smaller
loop-cursor-smaller c =
    let d = (goal.at.loop-cursor-smaller c).After-next_sample in
    omega (arith, later (step d) c.in-Ok.is, (step d).unended)

pub loop-cursor-preserved : goal.loop-cursor-preserved
loop-cursor-preserved c =
    let d = (goal.at.loop-cursor-preserved c).After-next_sample in
    let e = c.in-Ok.is in
    (advanced _ _ _ _ _ _ _ (progress d) (sample d) _ _ (advanced-walk (step d) e) _ (let w = rw c.shares.ensures at c.write_line.ensures in rw (← line d _ e) w), buffers_then c.loop-cursor.invariant.1 c.next_sample.ensures.1)

pub returns : goal.returns
returns c =
    let g = c.loop-cursor.invariant.0 in
    let f = finished _ _ _ _ _ _ _ g _ _ (walk.ended _ _ _ _ _ g.walk c.loop-cursor-test.false) _ (written_nothing _) in
    (f.0, c.loop-cursor.invariant.1, f.1)
