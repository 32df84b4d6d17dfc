-- The text by what the code has counted.
use Rattle.std.specs.Prelude.{◌≡◌, List, ℕ}
use Rattle.std.proofs.Common.{ap}
use Rattle.std.proofs.lemmas.List.{length-map}
use Rattle.checks.specs.Checks.{Verdict}
use Rattle.tally.specs.Counted.{tally_of}
use Rattle.tally.specs.LineLaws.{lines_counts}
use Rattle.tally.specs.declared.Tally.{Tally}
use Rattle.lesson_file.specs.Records.{Sample}
use Rattle.lesson_samples.specs.Lesson.{value_of, Lesson, ending_verdict}
use Rattle.report_lines.specs.Lines.{tally_text}
use Rattle.report.specs.Report.{values_of, lengths_of, samples_text, ended_text, text_of}

-- the samples, counted
abbrev pub tallied : List Sample → Tally
tallied samples = tally_of (lengths_of samples) (values_of samples)

abbrev pub reading_text : Tally → Verdict Unit → List ℕ
reading_text t v = ended_text (tally_text t) v

-- It is the text of the file.
counted-text : (samples : List Sample) → tally_text (tallied samples) ≡ samples_text samples
unfolding tally_text samples_text
counted-text samples = rw (lines_counts (lengths_of samples) (values_of samples), length-map samples value_of)

pub reading_text_lem : (l : Lesson) → reading_text (tallied l.samples) (ending_verdict l.ending) ≡ text_of l
unfolding text_of
reading_text_lem l = ap (λ (t : List ℕ). ended_text t (ending_verdict l.ending)) (counted-text l.samples)
