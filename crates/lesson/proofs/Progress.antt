-- How far the lesson's lines have been written: those of the samples that the walk has made.
use mathlib.Core.Path.{◌≡◌}
use mathlib.Core.List.{List, [], ◌∷◌, ◌++◌}
use Prim.Native.Nat.{ℕ, ◌+◌}
use native.Mathlib.Omega.{arith}
use lib.ListN.{length, length-append}
use Rattle.checks.specs.Checks.{Verdict}
use Rattle.text.specs.Text.{HasRoom, Written}
use Rattle.text.specs.Laws.{written_nothing, written_then, room_left, room_behind}
use Rattle.text.specs.declared.Writer.{Writer}
use Rattle.lesson_file.specs.Records.{Sample}
use Rattle.lesson_samples.specs.Lesson.{lesson, ending_verdict}
use Rattle.lesson_samples.specs.Call.{SampleBuffers, after_lesson}
use Rattle.lesson_samples.specs.RefusalLine.{ending_line}
use Rattle.lesson_samples.specs.Walk as walk
use Rattle.lesson_samples.specs.Walk.{Walk, Walked}
use Rattle.lesson.specs.Text.{sample_line, sample_lines, lesson_lines}
use Rattle.lesson.specs.TextLaws.{lines-append, lines_none, lines-last}

pub record Progress (file : List ℕ) (first : SampleBuffers) (text : Writer) (now : SampleBuffers) (written : Writer) (p number : ℕ) : Type 0 where
  pub done : List Sample
  pub walk : Walk file first now done p
  pub numbered : number ≡ 1 + length done
  pub wrote : Written text (sample_lines 1 done) written

module _ (file : List ℕ) (first : SampleBuffers) (text : Writer) where
  pub begun : Progress file first text first text 0 1
  begun = record { done = []; walk = walk.begun file first; numbered = omega arith; wrote = rw (lines_none 1) (written_nothing text) }

  module _ (now : SampleBuffers) (written : Writer) (p number : ℕ) (g : Progress file first text now written p number) where
    -- no sample is left: the line of how the file ends is still to come
    module _ (after : SampleBuffers) (v : Verdict Unit) (w : Walked file first after g.done v) where
      lines-ended : lesson_lines (lesson file) ≡ sample_lines 1 g.done ++ ending_line v
      unfolding lesson_lines
      lines-ended = rw (w.samples, w.ending)

      pub ending-room : HasRoom text (lesson_lines (lesson file)) → HasRoom written (ending_line v)
      ending-room h = room_behind (sample_lines 1 g.done) (ending_line v) (rw lines-ended at h) g.wrote

      pub finished : (last : Writer) → Written written (ending_line v) last → (after ≡ after_lesson (lesson file) first) × Written text (lesson_lines (lesson file)) last
      finished last d = (w.buffers, rw lines-ended (written_then g.wrote d))

    -- one sample more
    module _ (s : Sample) (after : SampleBuffers) (r : ℕ) (w : Walk file first after (g.done ++ (s ∷ [])) r) where
      line-next : sample_lines 1 (g.done ++ (s ∷ [])) ≡ sample_lines 1 g.done ++ sample_line number s
      line-next = rw g.numbered (lines-last 1 g.done s)

      lines_split : length (lesson_lines (lesson file)) ≡ length (sample_lines 1 g.done) + length (sample_line number s) + length (sample_lines (1 + length (g.done ++ (s ∷ []))) (walk.rest_from file r).samples) + length (ending_line (ending_verdict (lesson file).ending))
      unfolding lesson_lines
      lines_split = rw (← w.samples, lines-append, line-next) (simp length-append (omega arith))

      pub sample-room : HasRoom text (lesson_lines (lesson file)) → HasRoom written (sample_line number s)
      sample-room h = room_left (sample_lines 1 g.done) (sample_line number s) (lesson_lines (lesson file)) (omega (arith, lines_split)) h g.wrote

      pub advanced : (later : Writer) → Written written (sample_line number s) later → Progress file first text after later r (number + 1)
      advanced later d = record { done = g.done ++ (s ∷ []); walk = w; numbered = omega (arith, g.numbered, length-append g.done (s ∷ [])); wrote = rw line-next (written_then g.wrote d) }
