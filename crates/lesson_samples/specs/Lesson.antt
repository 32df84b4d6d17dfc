-- What a lesson file says: its samples, what they come to, and how it ends (document 01: 'Lesson files and the lesson program').
use Rattle.std.specs.Prelude.{cond, List, [], ◌∷◌, ℕ, zero, suc, leb, eqb, ℤ, length}
use Rattle.checks.specs.Checks.{Check, Verdict, accepted, refused, checked, narrow, word_checks}
use Rattle.masking.specs.Sharing.{xor_all}
use Rattle.binomial.specs.Signed.{difference_of_weights}
use Rattle.totals.specs.Sample.{sample_words, sample_shares}
use Rattle.lesson_file.specs.Records.{located, layout_read, Sample, sample_of}
use Rattle.lesson_file.specs.declared.Layout.{Layout}

-- ---- what a sample comes to

abbrev pub shares_of : Sample → List ℕ
shares_of s = sample_shares s.n s.k s.q s.x s.y s.words

-- The weight of x less the weight of y. It is the centred value of the shares' residue (the sampler's `shares-centred`).
abbrev pub value_of : Sample → ℤ
value_of s = difference_of_weights (xor_all s.x) (xor_all s.y)

-- ---- the sampler's other checks, which follow when RW is complete

-- 6 to 9: 4 and 5 hold, since the lists have n words, and 10 and 11, since the buffers have room for every sample
abbrev pub other_checks : Sample → List Check
other_checks s = narrow 6 s.k s.x ∷ narrow 7 s.k s.y ∷ word_checks 0 (sample_words s.n s.k) s.q s.words

-- the record concerned: XB for 6, YB for 7, and RW for 8 and 9
abbrev pub record_of : Layout → ℕ → ℕ
record_of l code = cond (eqb code 6) l.lists.x (cond (eqb code 7) l.lists.y l.lists.next.at)

unfoldable pub fit_checks : List ℕ → Layout → List Check
fit_checks file l = located (record_of l) (other_checks (sample_of file l))

-- ---- the lesson

-- How a file ends: complete; refused with a number and a position by its length or at a record; or refused by the sampler's checks of a sample
-- whose records are whole.
pub data Ending : Type 0 where
  complete : Ending
  unread : ℕ → ℕ → Ending
  unfit : Sample → ℕ → ℕ → Ending

-- the refusal, if there is one
abbrev pub ending_verdict : Ending → Verdict Unit
ending_verdict complete = accepted tt
ending_verdict (unread code position) = refused code position
ending_verdict (unfit s code position) = refused code position

-- the samples that are accepted, up to the end or the first refusal
pub record Lesson : Type 0 where
  pub samples : List Sample
  pub ending : Ending

abbrev pub ends : Ending → Lesson
ends e = record { samples = []; ending = e }

abbrev pub before : Sample → Lesson → Lesson
before s rest = record { samples = s ∷ rest.samples; ending = rest.ending }

-- a sample whose records are whole, and the lesson behind it
abbrev pub judged : Sample → Verdict Unit → Lesson → Lesson
judged s (accepted a) rest = before s rest
judged s (refused code position) rest = ends (unfit s code position)

-- what is read at a position where the file has not ended, and the lesson from each later position on
abbrev pub continued : List ℕ → Verdict Layout → (ℕ → Lesson) → Lesson
continued file (accepted l) later = judged (sample_of file l) (checked (fit_checks file l)) (later l.next.at)
continued file (refused code position) later = ends (unread code position)

-- The lesson from position p on, in at most `most` samples. A file that ends after a complete sample is complete.
unfoldable pub samples_from : ℕ → List ℕ → ℕ → Lesson
samples_from zero file p = ends complete
samples_from (suc most) file p = cond (leb (length file) p) (ends complete) (continued file (layout_read file p) (samples_from most file))

-- Every sample has bytes, so there are no more samples than bytes.
abbrev pub lesson_from : List ℕ → ℕ → Lesson
lesson_from file p = samples_from (length file) file p

-- A file of more than 60,000 bytes is refused before any record of it is looked at.
unfoldable pub lesson : List ℕ → Lesson
lesson file = cond (leb (length file) 60000) (lesson_from file 0) (ends (unread 21 0))
