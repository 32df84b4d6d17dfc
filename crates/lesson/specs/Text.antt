-- The lesson program's output (document 01: 'Lesson files and the lesson program'), as bytes, and the call that makes it.
use Rattle.std.specs.Prelude.{cond, List, [], ◌∷◌, ◌++◌, map, ℕ, suc, ◌+◌, ◌*◌, leb, ℤ, length}
use Rattle.checks.specs.Checks.{Outcome}
use Rattle.totals.specs.Sample.{sample_words}
use Rattle.text.specs.Ascii.{ascii}
use Rattle.text.specs.Text.{decimal, signed, line}
use Rattle.lesson_file.specs.Records.{Sample}
use Rattle.lesson_samples.specs.Lesson.{shares_of, value_of, Lesson, lesson, ending_verdict}
use Rattle.lesson_samples.specs.RefusalLine.{ending_line}
use Rattle.lesson_samples.specs.Call.{Buffers, piece_written}

abbrev pub header : List ℕ
header = ascii "no n k q used sample shares\n"

abbrev pub parameter_fields : ℕ → ℕ → ℕ → ℕ → List (List ℕ)
parameter_fields n k q used = decimal n ∷ decimal k ∷ decimal q ∷ decimal used ∷ []

-- number, n, k, q, words used, centred sample, the n shares
unfoldable pub fields_line : ℕ → ℕ → ℕ → ℕ → ℕ → ℤ → List ℕ → List ℕ
fields_line number n k q used value shares = line (decimal number) (parameter_fields n k q used ++ (signed value ∷ map decimal shares))

abbrev pub sample_line : ℕ → Sample → List ℕ
sample_line number s = fields_line number s.n s.k s.q (sample_words s.n s.k) (value_of s) (shares_of s)

-- one line a sample, from this number on
unfoldable pub sample_lines : ℕ → List Sample → List ℕ
sample_lines number [] = []
sample_lines number (s ∷ samples) = sample_line number s ++ sample_lines (suc number) samples

-- what stands behind the header
unfoldable pub lesson_lines : Lesson → List ℕ
lesson_lines l = sample_lines 1 l.samples ++ ending_line (ending_verdict l.ending)

-- The whole output: a header first, one line a sample, numbered from 1, and a refusal's line.
unfoldable pub text_of : Lesson → List ℕ
text_of l = header ++ lesson_lines l

abbrev pub lesson_text : List ℕ → List ℕ
lesson_text file = text_of (lesson file)

-- Three bytes for each byte that is looked at, the header's 28, and 17 for a refusal: room for the text of every file of this length.
abbrev pub text_room : ℕ → ℕ
text_room bytes = cond (leb bytes 60000) (3 * bytes + 45) 45

-- The call that puts the text in front of a text buffer.
abbrev pub text_written : List ℕ → List ℕ → List ℕ → List ℕ → List ℕ → Outcome ℕ Buffers
text_written file words out work text = piece_written (text_room (length file)) (lesson_text file) file words out work text
