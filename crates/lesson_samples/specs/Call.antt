-- A call that writes a text about a lesson file: its checks, and what the buffers hold after it.
use Rattle.std.specs.Prelude.{◌≡◌, List, [], ◌∷◌, ℕ, length, replicate}
use Rattle.buffers.specs.Overwrite.{overwrite}
use Rattle.checks.specs.Checks.{Check, verdict, Outcome, settled, at_least}
use Rattle.lesson_file.specs.Records.{Sample}
use Rattle.lesson_samples.specs.declared.Buffers as declared
use Rattle.lesson_samples.specs.Lesson.{shares_of, Lesson, lesson, Ending, complete, unread, unfit}

-- the buffers that samples are made in: random words, output, work area
pub record SampleBuffers : Type 0 where
  pub words : List ℕ
  pub out : List ℕ
  pub work : List ℕ

abbrev pub sample_buffers : List ℕ → List ℕ → List ℕ → SampleBuffers
sample_buffers words out work = record { words = words; out = out; work = work }

-- what the code's buffers hold
abbrev pub held : declared.Buffers → SampleBuffers
held b = sample_buffers b.words.now b.out.now b.work.now

-- the same buffers, whatever they hold
pub record SameBuffers (b after : declared.Buffers) : Type 0 where
  pub words : (after.words.ghost_name ≡ b.words.ghost_name) × (length after.words.now ≡ length b.words.now)
  pub out : (after.out.ghost_name ≡ b.out.ghost_name) × (length after.out.now ≡ length b.out.now)
  pub work : (after.work.ghost_name ≡ b.work.ghost_name) × (length after.work.now ≡ length b.work.now)

-- RW fills the word buffer from the front
abbrev pub loaded : Sample → SampleBuffers → SampleBuffers
loaded s b = sample_buffers (overwrite b.words 0 s.words) b.out b.work

-- and an accepted sample leaves its shares in the output, and zeros in the work area
abbrev pub sampled_in : Sample → SampleBuffers → SampleBuffers
sampled_in s b = sample_buffers (overwrite b.words 0 s.words) (overwrite b.out 0 (shares_of s)) (overwrite b.work 0 (replicate s.n 0))

unfoldable pub after_samples : List Sample → SampleBuffers → SampleBuffers
after_samples [] b = b
after_samples (s ∷ samples) b = after_samples samples (sampled_in s b)

abbrev pub after_ending : Ending → SampleBuffers → SampleBuffers
after_ending complete b = b
after_ending (unread code position) b = b
after_ending (unfit s code position) b = loaded s b

unfoldable pub after_lesson : Lesson → SampleBuffers → SampleBuffers
after_lesson l b = after_ending l.ending (after_samples l.samples b)

-- 8: 1,792 words; 10: eight shares, and `room` for the text; 11: the totals of eight shares
abbrev pub call_checks : ℕ → ℕ → ℕ → ℕ → ℕ → List Check
call_checks room words out work text = at_least 8 1792 words ∷ at_least 10 8 out ∷ at_least 10 room text ∷ at_least 11 8 work ∷ []

pub record Buffers : Type 0 where
  pub sample : SampleBuffers
  pub text : List ℕ

abbrev pub with_text : SampleBuffers → List ℕ → Buffers
with_text b text = record { sample = b; text = text }

-- `piece`, for which `room` suffices, in front of the text buffer; an accepted call answers its length.
unfoldable pub piece_written : ℕ → List ℕ → List ℕ → List ℕ → List ℕ → List ℕ → List ℕ → Outcome ℕ Buffers
piece_written room piece file words out work text =
    settled (verdict (call_checks room (length words) (length out) (length work) (length text)) (length piece)) (with_text (sample_buffers words out work) text)
    (with_text (after_lesson (lesson file) (sample_buffers words out work)) (overwrite text 0 piece))
