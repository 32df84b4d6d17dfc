-- The texts about a lesson file for C: the calls of the lesson and of the report, with an output and a work area of their own.
use Rattle.std.specs.Prelude.{List, ℕ, replicate}
use Rattle.checks.specs.Checks.{Outcome}
use Rattle.lesson_samples.specs.Call.{Buffers}
use Rattle.lesson.specs.Text.{text_written}
use Rattle.report.specs.Report.{report_written}

-- the buffers that the caller lends
pub record WordsAndText : Type 0 where
  pub words : List ℕ
  pub text : List ℕ

abbrev pub words_and_text : List ℕ → List ℕ → WordsAndText
words_and_text words text = record { words = words; text = text }

abbrev pub lent : Outcome ℕ Buffers → Outcome ℕ WordsAndText
lent o = record { answer = o.answer; buffers = words_and_text o.buffers.sample.words o.buffers.text }

abbrev pub lesson_text_written : List ℕ → List ℕ → List ℕ → Outcome ℕ WordsAndText
lesson_text_written file words text = lent (text_written file words (replicate 8 0) (replicate 8 0) text)

abbrev pub report_text_written : List ℕ → List ℕ → List ℕ → Outcome ℕ WordsAndText
report_text_written file words text = lent (report_written file words (replicate 8 0) (replicate 8 0) text)
