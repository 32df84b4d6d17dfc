-- How far a walk through the samples of a file has come: those that were made, and the lesson that is left, make the whole.
use Rattle.std.specs.Prelude.{◌≡◌, Result, Ok, Err, cond, List, [], ◌∷◌, ◌++◌, ℕ, ◌≤◌, ◌<◌, leb}
use Rattle.std.proofs.Math.Path.{refl}
use Rattle.std.proofs.Common.{sym, ap, ◌∙◌, append_assoc, append-nil, le-leb, length-append}
use Rattle.std.proofs.Math.Decide.{dec_le}
use native.Mathlib.Omega.{arith}
use Rattle.std.proofs.lemmas.Bool.{lt-leb}
use Rattle.std.proofs.Math.ListN.{length}
use Rattle.checks.specs.Checks.{Verdict, accepted, refused}
use Rattle.checks.specs.Answers.{outcome}
use Rattle.checks.specs.declared.Refusal.{Refusal}
use Rattle.lesson_file.specs.Layouts.{layout_longer}
use Rattle.lesson_file.specs.Records.{Sample, sample_of, layout_at}
use Rattle.lesson_samples.specs.Lesson.{Lesson, lesson, lesson_from, unread, ending_verdict, ends}
use Rattle.lesson_samples.specs.LessonLaws.{lesson-ends, lesson-sample, next-refused, next_too_long, next-limit, next-holds, next-sampled}
use Rattle.lesson_samples.specs.Call.{SampleBuffers, after_samples, after_lesson}
use Rattle.lesson_samples.specs.Steps.{next_sample}
use Rattle.lesson_samples.specs.declared.Sampled.{Sampled}

-- the lesson from position p on; nothing of a file that is too long is looked at
unfoldable pub rest_from : List ℕ → ℕ → Lesson
rest_from file p = cond (leb (length file) 60000) (lesson_from file p) (ends (unread 21 0))

module _ (file : List ℕ) where
  rest_short : (p : ℕ) → length file ≤ 60000 → rest_from file p ≡ lesson_from file p
  unfolding rest_from
  rest_short p h = rw (le-leb (length file) 60000 h)

  rest-long : (p : ℕ) → 60000 < length file → rest_from file p ≡ ends (unread 21 0)
  unfolding rest_from
  rest-long p h = rw (lt-leb (length file) 60000 h)

  rest-whole : rest_from file 0 ≡ lesson file
  unfolding rest_from lesson
  rest-whole = refl

  -- ---- the whole file

  looked_at : length file ≤ 60000 → lesson file ≡ lesson_from file 0
  looked_at h = sym rest-whole ∙ rest_short 0 h

  pub too_long : 60000 < length file → lesson file ≡ ends (unread 21 0)
  too_long h = sym rest-whole ∙ rest-long 0 h

  -- what holds of a lesson that is looked at, and of a file that is too long
  pub whole-holds : (P : Lesson → Type 0) → (length file ≤ 60000 → P (lesson_from file 0)) → (60000 < length file → P (ends (unread 21 0))) → P (lesson file)
  whole-holds P looked long = go (dec_le (length file) 60000)
    where
      go : Dec (length file ≤ 60000) → P (lesson file)
      go (yes h) = rw (looked_at h) (looked h)
      go (no h) =
          let l : 60000 < length file = omega arith in
          rw (too_long l) (long l)

-- `done` are the samples before position p, made in buffers that were `first` before them and are `now` behind them
pub record Walk (file : List ℕ) (first now : SampleBuffers) (done : List Sample) (p : ℕ) : Type 0 where
  pub counted : length done ≤ p
  pub unwalked : 60000 < length file → p ≡ 0
  pub samples : done ++ (rest_from file p).samples ≡ (lesson file).samples
  pub ending : (rest_from file p).ending ≡ (lesson file).ending
  pub buffers : after_lesson (rest_from file p) now ≡ after_lesson (lesson file) first

-- `done` are all samples of the file, and `v` says how it ends
pub record Walked (file : List ℕ) (first now : SampleBuffers) (done : List Sample) (v : Verdict Unit) : Type 0 where
  pub samples : (lesson file).samples ≡ done
  pub ending : ending_verdict (lesson file).ending ≡ v
  pub buffers : now ≡ after_lesson (lesson file) first

module _ (file : List ℕ) (first : SampleBuffers) where
  pub begun : Walk file first first [] 0
  begun = record { counted = omega arith; unwalked = λ h. refl; samples = ap (λ l. l.samples) (rest-whole file); ending = ap (λ l. l.ending) (rest-whole file); buffers = ap (λ l. after_lesson l first) (rest-whole file) }

  module _ (now : SampleBuffers) (done : List Sample) (p : ℕ) (w : Walk file first now done p) where
    finished : (after : SampleBuffers) (v : Verdict Unit) → ((rest_from file p).samples ≡ []) × (ending_verdict (rest_from file p).ending ≡ v) × (after ≡ after_lesson (rest_from file p) now) → Walked file first after done v
    finished after v (s, e, b) = record { samples = sym w.samples ∙ ap (λ l. done ++ l) s ∙ append-nil done; ending = ap ending_verdict (sym w.ending) ∙ e; buffers = b ∙ w.buffers }

    -- the file ends here
    pub ended : length file ≤ p → Walked file first now done (accepted tt)
    unfolding after_lesson after_samples
    ended h = go (dec_le (length file) 60000)
      where
        go : Dec (length file ≤ 60000) → Walked file first now done (accepted tt)
        go (yes l) = finished now (accepted tt) (rw (rest_short file p l, lesson-ends file p h) (refl, refl, refl))
        go (no l) = absurd (omega (arith, w.unwalked (omega arith)))

    module _ (o : p < length file) (after : SampleBuffers) (a : Result Sampled Refusal) (e : outcome a after ≡ next_sample file now p) where
      -- it is refused here
      pub refused-at : (f : Refusal) → a ≡ Err f → Walked file first after done (refused f.code f.position)
      unfolding after_lesson after_samples
      refused-at f i = go (dec_le (length file) 60000)
        where
          go : Dec (length file ≤ 60000) → Walked file first after done (refused f.code f.position)
          go (yes l) = finished after _ (rw (rest_short file p l) (next-refused file p now after a e f i l o))
          go (no l) =
              let long : 60000 < length file = omega arith in
              let r = next_too_long file p now after a e f i long in
              finished after _ (rw (rest-long file p long, r.0, r.1) (refl, refl, r.2))

      -- one sample more
      module _ (m : Sampled) (i : a ≡ Ok m) where
        abbrev s : Sample
        s = sample_of file (layout_at file p)

        rest-sample : ((rest_from file p).samples ≡ s ∷ (rest_from file m.next.at).samples) × ((rest_from file p).ending ≡ (rest_from file m.next.at).ending) × (after_lesson (rest_from file p) now ≡ after_lesson (rest_from file m.next.at) after)
        unfolding after_lesson after_samples
        rest-sample =
            let l = next-limit file p now after a e m i in
            let h = next-holds file p now after a e m i in
            let d = next-sampled file p now after a e m i in
            rw (d.0, d.1, rest_short file p l, rest_short file (layout_at file p).next.at l, lesson-sample file p o h.0 h.1) (refl, refl, refl)

        pub advanced : Walk file first after (done ++ (s ∷ [])) m.next.at
        advanced =
            let d = ap (λ m. m.next.at) (next-sampled file p now after a e m i).0 in
            record {
              counted = omega (arith, w.counted, layout_longer file p, length-append done (s ∷ []));
              unwalked = λ long. absurd (omega (arith, next-limit file p now after a e m i));
              samples = append_assoc done (s ∷ []) _ ∙ ap (λ l. done ++ l) (sym rest-sample.0) ∙ w.samples;
              ending = sym rest-sample.1 ∙ w.ending;
              buffers = sym rest-sample.2 ∙ w.buffers;
            }
