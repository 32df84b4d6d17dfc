-- How much of its input a program needs: a file of more than 60,000 bytes is refused before any record of it is looked at, so that its first
-- 60,001 bytes tell the lesson.
use Rattle.std.specs.Prelude.{◌≡◌, List, ℕ, ◌≤◌, length, take}
use Rattle.std.proofs.Common.{sym, ap, ◌∙◌, arith, take_all, length-take-le}
use Rattle.std.proofs.Math.Decide.{dec_le}
use Rattle.lesson_samples.specs.Lesson.{Lesson, lesson}
use Rattle.lesson_samples.specs.Walk.{too_long}

pub lesson-of-front : (bytes : ℕ) (input : List ℕ) → 60001 ≤ bytes → lesson (take bytes input) ≡ lesson input
lesson-of-front bytes input h = go (dec_le (length input) bytes)
  where
    go : Dec (length input ≤ bytes) → lesson (take bytes input) ≡ lesson input
    go (yes e) = ap lesson (take_all bytes input e)
    go (no e) = too_long (take bytes input) (omega (arith, length-take-le bytes input (omega arith))) ∙ sym (too_long input (omega arith))

-- The first `count` bytes of the buffer are the beginning of the input, and all of it unless the buffer is full.
abbrev pub Read : List ℕ → List ℕ → ℕ → Type 0
Read input buffer count = take (length buffer) input ≡ take count buffer

-- A text about the lesson that is right for the bytes read is right for the input.
module _ (text_of : Lesson → List ℕ) (buffer : List ℕ) (count : ℕ) (h : 60001 ≤ length buffer) (text : List ℕ) (end : ℕ) where
  pub text-of_input : (take end text ≡ text_of (lesson (take count buffer))) × (end ≤ length text) → ((input : List ℕ) → Read input buffer count → take end text ≡ text_of (lesson input)) × (end ≤ length text)
  text-of_input t = (λ input e. t.0 ∙ ap (λ l. text_of (lesson l)) (sym e) ∙ ap text_of (lesson-of-front (length buffer) input h), t.1)
