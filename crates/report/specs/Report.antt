-- The class report (document 02, A.4), as bytes, and the call that makes it.
use Rattle.std.specs.Prelude.{not, List, ◌++◌, map, ℕ, ℤ, length}
use Rattle.checks.specs.Checks.{Verdict, accepted, refused, Outcome}
use Rattle.tally.specs.Tally.{lines, sumℤ, squares, first_of, agree}
use Rattle.lesson_file.specs.Records.{Sample}
use Rattle.lesson_samples.specs.Lesson.{value_of, Lesson, lesson, ending_verdict}
use Rattle.lesson_samples.specs.RefusalLine.{refusal_line}
use Rattle.lesson_samples.specs.Call.{Buffers, piece_written}
use Rattle.report_lines.specs.Lines.{lines_text, last_line}

-- the centred sample of each, and its k
abbrev pub values_of : List Sample → List ℤ
values_of samples = map value_of samples

abbrev pub lengths_of : List Sample → List ℕ
lengths_of samples = map (λ s. s.k) samples

-- of a complete file, whose total is the number of its samples
unfoldable pub samples_text : List Sample → List ℕ
samples_text samples =
    lines_text (not (agree (lengths_of samples))) (first_of (lengths_of samples)) (lines (values_of samples))
    ++ last_line (sumℤ (values_of samples)) (squares (values_of samples)) (length samples)

-- at a refusal only the refusal's line
abbrev pub ended_text : List ℕ → Verdict Unit → List ℕ
ended_text complete (accepted a) = complete
ended_text complete (refused code position) = refusal_line code position

-- The whole output.
unfoldable pub text_of : Lesson → List ℕ
text_of l = ended_text (samples_text l.samples) (ending_verdict l.ending)

abbrev pub report_text : List ℕ → List ℕ
report_text file = text_of (lesson file)

-- Room for the report of every file: 33 lines of at most 32 bytes and a last one of at most 23, rounded up.
abbrev pub report_room : ℕ
report_room = 1200

-- The call that puts the report in front of a text buffer.
abbrev pub report_written : List ℕ → List ℕ → List ℕ → List ℕ → List ℕ → Outcome ℕ Buffers
report_written file words out work text = piece_written report_room (report_text file) file words out work text
