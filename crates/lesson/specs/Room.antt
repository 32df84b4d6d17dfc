-- The text of every file fits into its room, and the lesson program's buffer has that room.
use Rattle.std.specs.Prelude.{List, ℕ, suc, ◌+◌, ◌*◌, ◌-◌, ◌≤◌, ◌<◌, length}
use Rattle.std.proofs.Common.{mul-le-mul, arith, le-leb}
use Rattle.std.proofs.Math.Decide.{dec_le}
use Rattle.std.proofs.lemmas.Bool.{lt-leb}
use Rattle.std.proofs.Math.ListN.{length-append}
use Rattle.buffers.specs.Positions.{at}
use Rattle.checks.specs.Laws.{Hold}
use Rattle.totals.specs.Sample.{sample_words}
use Rattle.sampler.specs.Accepted.{SharedPair}
use Rattle.sampler.proofs.Calls.{length-shares, shares-below}
use Rattle.sampler.proofs.Opened.{sample_le}
use Rattle.lesson_file.specs.Layouts.{WholeSample, whole-sample, layout_next, layout_end}
use Rattle.lesson_file.specs.Records.{number, Sample, sample_of, layout_at, layout_checks}
use Rattle.lesson_file.specs.declared.Layout.{Layout}
use Rattle.lesson_samples.specs.Lesson.{shares_of, value_of, Lesson, lesson, lesson_from, fit_checks}
use Rattle.lesson_samples.specs.SampleLaws.{sample-pair, sample-words}
use Rattle.lesson_samples.specs.LessonLaws.{lesson-holds}
use Rattle.lesson_samples.specs.RefusalLaws.{ending_short}
use Rattle.lesson_samples.specs.Walk.{whole-holds}
use Rattle.lesson.specs.Text.{header, sample_line, sample_lines, lesson_lines, text_of, lesson_text, text_room}
use Rattle.lesson.specs.TextLaws.{fields_line-length}

-- ---- the line of a sample

words-least : (n k : ℕ) → 2 ≤ n → 1 ≤ k → 4 ≤ sample_words n k
words-least n k h l =
    let a : 2 ≤ 2 * k = omega arith in
    let b : 1 ≤ n - 1 = omega arith in
    mul-le-mul a (mul-le-mul h b)

module _ (file : List ℕ) (bytes : (i : ℕ) → at file i < 256) (limit : length file ≤ 60000) where
  module _ (p : ℕ) (o : p < length file) (h : Hold (layout_checks file p)) (g : Hold (fit_checks file (layout_at file p))) where
    abbrev l : Layout
    l = layout_at file p

    abbrev s : Sample
    s = sample_of file l

    whole : WholeSample file l
    whole = whole-sample file p h

    pair : SharedPair s.n s.k s.q s.x s.y
    pair = sample-pair file l whole g

    modulus_lt : s.q < 65536
    unfolding sample_of layout_at number
    modulus_lt = omega (arith, bytes (p + 4), bytes (p + 4 + 1))

    sample-length : p + 30 ≤ l.next.at
    unfolding sample_of layout_at
    sample-length = omega (arith, layout_next file p, sample-words file l whole g, words-least s.n s.k pair.two pair.one, pair.two)

    sample-line-length : (number : ℕ) → number ≤ p + 1 → length (sample_line number s) ≤ 90
    unfolding sample_of
    sample-line-length number m =
        fields_line-length number s.n s.k s.q (sample_words s.n s.k) (value_of s) (shares_of s) (omega arith) (omega (arith, pair.eight)) (omega (arith, pair.sixteen)) (omega (arith, modulus_lt))
        (omega (arith, whole.limit, sample-words file l whole g)) (omega (arith, sample_le pair, pair.sixteen)) (omega (arith, length-shares s.n s.k s.q s.x s.y s.words, pair.eight))
        (λ i b. omega (arith, shares-below pair s.words i b, modulus_lt))

  -- ---- the lines of the samples from a position on: three bytes for each byte of the file

  abbrev Fits : ℕ → Lesson → Type 0
  Fits p l = (number : ℕ) → number ≤ p + 1 → length (sample_lines number l.samples) ≤ 3 * (length file - p)

  lines_fit : (p : ℕ) → Fits p (lesson_from file p)
  unfolding sample_lines
  lines_fit =
      lesson-holds file Fits
      (λ p number m. omega arith)
      (λ p code position o e number m. omega arith)
      (λ p code position o h e number m. omega arith)
      (λ p o h g behind number m.
      let d : p + 30 ≤ (layout_at file p).next.at = sample-length p o h g in
      rw length-append (omega (arith, sample-line-length p o h g number m, behind (suc number) (omega arith), layout_end file p h)))

-- ---- the whole text

-- of a file that is too long there are none
samples-length : (file : List ℕ) → ((i : ℕ) → at file i < 256) → length (sample_lines 1 (lesson file).samples) + 45 ≤ text_room (length file)
unfolding sample_lines
samples-length file bytes =
    whole-holds file (λ l. length (sample_lines 1 l.samples) + 45 ≤ text_room (length file))
    (λ h. rw (le-leb (length file) 60000 h) (omega (arith, lines_fit file bytes h 0 1 (omega arith))))
    (λ long. rw (lt-leb (length file) 60000 long) (omega arith))

pub text-length : (file : List ℕ) → ((i : ℕ) → at file i < 256) → length (lesson_text file) ≤ text_room (length file)
unfolding text_of lesson_lines
text-length file bytes =
    rw (length-append header, length-append (sample_lines 1 (lesson file).samples))
    (omega (arith, samples-length file bytes, ending_short file bytes))

pub room_le : (bytes : ℕ) → text_room bytes ≤ 180045
room_le bytes = go (dec_le bytes 60000)
  where
    go : Dec (bytes ≤ 60000) → text_room bytes ≤ 180045
    go (yes h) = rw (le-leb bytes 60000 h) (omega arith)
    go (no h) = rw (lt-leb bytes 60000 (omega arith)) (omega arith)
