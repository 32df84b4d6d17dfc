-- The pieces of a refusal's line, and how long it is for every file.
use Rattle.std.specs.Prelude.{◌≡◌, Bool, true, ◌&&◌, List, ◌++◌, ℕ, ◌+◌, ◌≤◌, ◌<◌, ltb, length}
use Rattle.std.proofs.Common.{arith}
use borrow.Author.Tests.{lt-ltb, ltb-true}
use Rattle.buffers.specs.Positions.{at}
use Rattle.checks.specs.Checks.{Check, refused, verdict}
use Rattle.checks.specs.Laws.{Hold, and_true}
use Rattle.checks.specs.Refusals.{All, refusal_passes}
use Rattle.text.specs.Ascii.{ascii}
use Rattle.text.specs.Text.{decimal}
use Rattle.text.specs.Laws.{decimal-length, line-three, length-line-three}
use Rattle.lesson_file.specs.Layouts.{whole-sample}
use Rattle.lesson_file.specs.Records.{list_size, layout_at, layout_checks}
use Rattle.lesson_samples.specs.Lesson.{fit_checks, lesson, ending_verdict}
use Rattle.lesson_samples.specs.LessonLaws.{lesson-holds}
use Rattle.lesson_samples.specs.Walk.{whole-holds}
use Rattle.lesson_samples.specs.RefusalLine.{refusal_line, ending_line}

module _ (code position : ℕ) where
  pub refusal_line_lem : refusal_line code position ≡ ascii "refused" ++ ((ascii " " ++ decimal code) ++ ((ascii " " ++ decimal position) ++ ascii "\n"))
  unfolding refusal_line
  refusal_line_lem = line-three (ascii "refused") (decimal code) (decimal position)

  pub length_refusal_line : length (refusal_line code position) ≡ 10 + length (decimal code) + length (decimal position)
  unfolding refusal_line
  length_refusal_line = length-line-three (ascii "refused") (decimal code) (decimal position)

  refusal_line-length : code < 100 → position < 100000 → length (refusal_line code position) ≤ 17
  refusal_line-length h l = omega (arith, length_refusal_line, decimal-length code 2 h (omega arith), decimal-length position 5 l (omega arith))

-- a number of at most two digits, and a position of at most five
abbrev is_short : ℕ → ℕ → Bool
is_short code position = ltb code 100 && ltb position 100000

checks_short : {A : Type 0} (a : A) (code position : ℕ) (cs : List Check) → All is_short cs ≡ true → verdict cs a ≡ refused code position → length (refusal_line code position) ≤ 17
checks_short a code position cs b e =
    let s = and_true (ltb code 100) (ltb position 100000) (refusal_passes is_short a code position cs b e) in
    refusal_line-length code position (ltb-true _ _ s.0) (ltb-true _ _ s.1)

module _ (file : List ℕ) (bytes : (i : ℕ) → at file i < 256) (limit : length file ≤ 60000) (p : ℕ) where
  layout_short : p < length file → All is_short (layout_checks file p) ≡ true
  unfolding layout_checks
  layout_short o =
      let n = at file (p + 2) in
      let b : n < 256 = bytes (p + 2) in
      rw (lt-ltb p 100000 (omega arith), lt-ltb (p + 6) 100000 (omega arith), lt-ltb (p + 6 + list_size n) 100000 (omega arith), lt-ltb (p + 6 + list_size n + list_size n) 100000 (omega arith))

  fit_short : Hold (layout_checks file p) → All is_short (fit_checks file (layout_at file p)) ≡ true
  unfolding fit_checks
  fit_short h =
      let l = layout_at file p in
      let w = whole-sample file p h in
      rw (lt-ltb l.lists.x 100000 (omega (arith, w.x)), lt-ltb l.lists.y 100000 (omega (arith, w.y)), lt-ltb l.lists.next.at 100000 (omega (arith, w.words)))

-- the line of how a file ends
pub ending_short : (file : List ℕ) → ((i : ℕ) → at file i < 256) → length (ending_line (ending_verdict (lesson file).ending)) ≤ 17
ending_short file bytes =
    whole-holds file (λ l. length (ending_line (ending_verdict l.ending)) ≤ 17)
    (λ h.
    lesson-holds file (λ p l. length (ending_line (ending_verdict l.ending)) ≤ 17) (λ p. omega arith) (λ p code position o e. checks_short _ code position _ (layout_short file bytes h p o) e)
    (λ p code position o g e. checks_short _ code position _ (fit_short file bytes h p g) e) (λ p o g f behind. behind) 0)
    (λ long. refusal_line-length 21 0 (omega arith) (omega arith))
