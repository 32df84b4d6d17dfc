-- What the functions that a walk through the file is made of do, and what they ask for.
use Rattle.std.specs.Prelude.{cond, List, ℕ, ◌≤◌, leb, length}
use Rattle.checks.specs.Checks.{Verdict, accepted, refused, verdict, Outcome, settled}
use Rattle.totals.specs.Sample.{sample_words}
use Rattle.lesson_file.specs.Records.{layout_read, sample_of}
use Rattle.lesson_file.specs.declared.Layout.{Layout}
use Rattle.lesson_samples.specs.Lesson.{value_of, fit_checks}
use Rattle.lesson_samples.specs.Call.{SampleBuffers, loaded, sampled_in}
use Rattle.lesson_samples.specs.declared.Buffers.{Buffers}
use Rattle.lesson_samples.specs.declared.Sampled.{Sampled}

-- room for every sample: 1,792 words, eight shares and their totals
pub record SampleRoom (words out work : ℕ) : Type 0 where
  pub word_room : 1792 ≤ words
  pub share-room : 8 ≤ out
  pub total-room : 8 ≤ work

abbrev pub HasSampleRoom : Buffers → Type 0
HasSampleRoom b = SampleRoom (length b.words.now) (length b.out.now) (length b.work.now)

-- the parameters of a sample, how many words it takes, its value, and what follows it in the file
abbrev pub sampled_at : List ℕ → Layout → Sampled
sampled_at file l = record { parameters = l.parameters; used = sample_words l.parameters.n l.parameters.k; value = value_of (sample_of file l); next = l.next }

module _ (file : List ℕ) (b : SampleBuffers) where
  -- of a sample whose records are whole, with what it answers
  abbrev pub sample_judged : {A : Type 0} → Layout → A → Outcome A SampleBuffers
  sample_judged l a = settled (verdict (fit_checks file l) a) (loaded (sample_of file l) b) (sampled_in (sample_of file l) b)

  abbrev pub refused_with : ℕ → ℕ → Outcome Sampled SampleBuffers
  refused_with code position = record { answer = refused code position; buffers = b }

  abbrev read_then : Verdict Layout → Outcome Sampled SampleBuffers
  read_then (accepted l) = sample_judged l (sampled_at file l)
  read_then (refused code position) = refused_with code position

  -- of the sample at a position
  unfoldable pub next_sample : ℕ → Outcome Sampled SampleBuffers
  next_sample p = cond (leb (length file) 60000) (read_then (layout_read file p)) (refused_with 21 0)
