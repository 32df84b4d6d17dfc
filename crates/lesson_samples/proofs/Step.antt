-- What a walk through the samples of a file learns from one call of `next_sample`.
use Rattle.std.specs.Prelude.{◌≡◌, Result, Ok, Err, List, [], ◌∷◌, ◌++◌, ℕ, ◌≤◌, ◌<◌, length}
use Rattle.std.proofs.Common.{ap, arith}
use Rattle.checks.specs.Checks.{refused}
use Rattle.checks.specs.Laws.{Hold}
use Rattle.checks.specs.Answers.{outcome}
use Rattle.checks.specs.declared.Refusal.{Refusal}
use Rattle.lesson_file.specs.Layouts.{WholeSample, whole-sample, layout_longer}
use Rattle.lesson_file.specs.Records.{Sample, sample_of, layout_at}
use Rattle.lesson_samples.specs.Lesson.{fit_checks}
use Rattle.lesson_samples.specs.LessonLaws.{next-limit, next-holds, next-sampled}
use Rattle.lesson_samples.specs.Call.{SampleBuffers, sampled_in}
use Rattle.lesson_samples.specs.Steps.{sampled_at, next_sample}
use Rattle.lesson_samples.specs.Walk as walk
use Rattle.lesson_samples.specs.Walk.{Walk, Walked}
use Rattle.lesson_samples.specs.declared.Sampled.{Sampled}

-- the walk has come to position p, and the call's answer there was a
pub record Step (file : List ℕ) (first before after : SampleBuffers) (done : List Sample) (p : ℕ) (a : Result Sampled Refusal) : Type 0 where
  pub walked : Walk file first before done p
  pub unended : p < length file
  pub answered : outcome a after ≡ next_sample file before p

module _ {file : List ℕ} {first before after : SampleBuffers} {done : List Sample} {p : ℕ} {a : Result Sampled Refusal} (s : Step file first before after done p a) where
  pub refused-walk : {f : Refusal} → a ≡ Err f → Walked file first after done (refused f.code f.position)
  refused-walk {f} i = walk.refused-at file first before done p s.walked s.unended after a s.answered f i

  module _ {m : Sampled} (i : a ≡ Ok m) where
    pub advanced-walk : Walk file first after (done ++ (sample_of file (layout_at file p) ∷ [])) m.next.at
    advanced-walk = walk.advanced file first before done p s.walked s.unended after a s.answered m i

    pub limit : length file ≤ 60000
    limit = next-limit file p before after a s.answered m i

    pub whole : WholeSample file (layout_at file p)
    whole = whole-sample file p (next-holds file p before after a s.answered m i).0

    pub fit : Hold (fit_checks file (layout_at file p))
    fit = (next-holds file p before after a s.answered m i).1

    pub made : m ≡ sampled_at file (layout_at file p)
    made = (next-sampled file p before after a s.answered m i).0

    pub left : after ≡ sampled_in (sample_of file (layout_at file p)) before
    left = (next-sampled file p before after a s.answered m i).1

    pub later : p < m.next.at
    later = omega (arith, layout_longer file p, ap (λ (m : Sampled). m.next.at) made)
