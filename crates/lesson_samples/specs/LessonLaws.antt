-- What the lesson is at a position of the file, and what the code learns of it from one sample.
use Rattle.std.specs.Prelude.{◌≡◌, Result, Ok, Err, cond, List, [], ℕ, zero, suc, ◌+◌, ◌≤◌, ◌<◌, leb, length}
use Rattle.std.proofs.Math.Path.{refl}
use Rattle.std.proofs.Common.{sym, ap, ◌∙◌, arith, le-leb}
use Rattle.std.proofs.Math.Decide.{dec_le}
use Rattle.std.proofs.lemmas.Bool.{lt-leb}
use Rattle.checks.specs.Checks.{Verdict, accepted, refused, verdict, checked}
use Rattle.checks.specs.Laws.{Hold, not_both, accepts, accepted-holds, accepted-answer, refuses-alike, settled-answer, settled-refused, settled-accepted}
use Rattle.checks.specs.Answers.{outcome}
use Rattle.checks.specs.declared.Refusal.{Refusal}
use Rattle.lesson_file.specs.Layouts.{layout_longer}
use Rattle.lesson_file.specs.Records.{layout_read, Sample, sample_of, layout_at, layout_checks}
use Rattle.lesson_file.specs.declared.Layout.{Layout}
use Rattle.lesson_samples.specs.Lesson.{Lesson, complete, unread, unfit, ending_verdict, ends, before, judged, continued, samples_from, lesson_from, fit_checks}
use Rattle.lesson_samples.specs.Call.{SampleBuffers, sampled_in, after_samples, after_lesson}
use Rattle.lesson_samples.specs.Steps.{sampled_at, sample_judged, refused_with, next_sample}
use Rattle.lesson_samples.specs.declared.Sampled.{Sampled}

-- ---- how many steps are allowed

samples-end : (file : List ℕ) (most p : ℕ) → length file ≤ p → samples_from most file p ≡ ends complete
unfolding samples_from
samples-end file zero p h = refl
samples-end file (suc most) p h = rw (le-leb (length file) p h)

-- only the lesson behind a layout that was read matters
continued-alike : (file : List ℕ) (v : Verdict Layout) (later then : ℕ → Lesson) → ((l : Layout) → v ≡ accepted l → later l.next.at ≡ then l.next.at) → continued file v later ≡ continued file v then
continued-alike file (accepted l) later then e = ap (judged (sample_of file l) (checked (fit_checks file l))) (e l refl)
continued-alike file (refused code position) later then e = refl

-- more steps than bytes are left change nothing
samples-alike : (file : List ℕ) (f g p : ℕ) → length file ≤ p + f → length file ≤ p + g → samples_from f file p ≡ samples_from g file p
unfolding samples_from
samples-alike file zero g p h l = sym (samples-end file g p (omega arith))
samples-alike file (suc f) zero p h l = samples-end file (suc f) p (omega arith)
samples-alike file (suc f) (suc g) p h l =
    ap (cond (leb (length file) p) (ends complete))
    (continued-alike file (verdict (layout_checks file p) (layout_at file p)) (samples_from f file) (samples_from g file)
    (λ m e. let d : p < m.next.at = rw (accepted-answer (layout_at file p) m (layout_checks file p) e) (layout_longer file p) in
    samples-alike file f g m.next.at (omega arith) (omega arith)))

-- ---- the lesson at a position

module _ (file : List ℕ) (p : ℕ) where
  abbrev read : Verdict Layout
  read = layout_read file p

  abbrev s : Sample
  s = sample_of file (layout_at file p)

  abbrev later : Lesson
  later = lesson_from file (layout_at file p).next.at

  pub lesson-ends : length file ≤ p → lesson_from file p ≡ ends complete
  lesson-ends = samples-end file (length file) p

  lesson_continues : p < length file → lesson_from file p ≡ continued file read (lesson_from file)
  unfolding samples_from
  lesson_continues o = samples-alike file (length file) (suc (length file)) p (omega arith) (omega arith) ∙ rw (lt-leb (length file) p o)

  pub lesson-unread : (code position : ℕ) → p < length file → read ≡ refused code position → lesson_from file p ≡ ends (unread code position)
  lesson-unread code position o e = lesson_continues o ∙ ap (λ v. continued file v (lesson_from file)) e

  lesson-judged : p < length file → Hold (layout_checks file p) → lesson_from file p ≡ judged s (checked (fit_checks file (layout_at file p))) later
  lesson-judged o h = lesson_continues o ∙ ap (λ v. continued file v (lesson_from file)) (accepts (layout_at file p) (layout_checks file p) h)

  pub lesson-unfit : (code position : ℕ) → p < length file → Hold (layout_checks file p) → checked (fit_checks file (layout_at file p)) ≡ refused code position
      → lesson_from file p ≡ ends (unfit s code position)
  lesson-unfit code position o h e = lesson-judged o h ∙ ap (λ v. judged s v later) e

  pub lesson-sample : p < length file → Hold (layout_checks file p) → Hold (fit_checks file (layout_at file p)) → lesson_from file p ≡ before s later
  lesson-sample o h g = lesson-judged o h ∙ ap (λ v. judged s v later) (accepts tt (fit_checks file (layout_at file p)) g)

-- What holds at the end, at each refusal, and before a sample where it holds behind it, holds of the lesson from every position on.
module _ (file : List ℕ) (P : ℕ → Lesson → Type 0)
    (at-end : (p : ℕ) → P p (ends complete))
    (at-unread : (p code position : ℕ) → p < length file → layout_read file p ≡ refused code position → P p (ends (unread code position)))
    (at-unfit : (p code position : ℕ) → p < length file → Hold (layout_checks file p) → checked (fit_checks file (layout_at file p)) ≡ refused code position → P p (ends (unfit (sample_of file (layout_at file p)) code position)))
    (at-sample : (p : ℕ) → p < length file → Hold (layout_checks file p) → Hold (fit_checks file (layout_at file p)) → P (layout_at file p).next.at (lesson_from file (layout_at file p).next.at) → P p (before (sample_of file (layout_at file p)) (lesson_from file (layout_at file p).next.at))) where
  module _ (p : ℕ) (o : p < length file) (behind : (r : ℕ) → p < r → P r (lesson_from file r)) where
    holds-judged : Hold (layout_checks file p) → (v : Verdict Unit) → checked (fit_checks file (layout_at file p)) ≡ v → P p (lesson_from file p)
    holds-judged h (accepted a) e =
        let g = accepted-holds tt a (fit_checks file (layout_at file p)) e in
        rw (lesson-sample file p o h g) (at-sample p o h g (behind _ (layout_longer file p)))
    holds-judged h (refused code position) e = rw (lesson-unfit file p code position o h e) (at-unfit p code position o h e)

    holds_read : (v : Verdict Layout) → layout_read file p ≡ v → P p (lesson_from file p)
    holds_read (accepted l) e = holds-judged (accepted-holds (layout_at file p) l (layout_checks file p) e) (checked (fit_checks file (layout_at file p))) refl
    holds_read (refused code position) e = rw (lesson-unread file p code position o e) (at-unread p code position o e)

  -- at most `left` bytes are left
  holds-within : (left p : ℕ) → length file ≤ p + left → P p (lesson_from file p)
  holds-within zero p h = rw (lesson-ends file p (omega arith)) (at-end p)
  holds-within (suc left) p h = go (dec_le (length file) p) (λ r d. holds-within left r (omega arith))
    where
      go : Dec (length file ≤ p) → ((r : ℕ) → p < r → P r (lesson_from file r)) → P p (lesson_from file p)
      go (yes e) behind = rw (lesson-ends file p e) (at-end p)
      go (no e) behind = holds_read p (omega arith) behind (layout_read file p) refl

  pub lesson-holds : (p : ℕ) → P p (lesson_from file p)
  lesson-holds p = holds-within (length file) p (omega arith)

-- ---- what the code learns from one sample

module _ (file : List ℕ) (p : ℕ) (b : SampleBuffers) where
  pub next-long : 60000 < length file → next_sample file b p ≡ refused_with file b 21 0
  unfolding next_sample
  next-long l = rw (lt-leb (length file) 60000 l)

  module _ (limit : length file ≤ 60000) where
    pub next-read : Hold (layout_checks file p) → next_sample file b p ≡ sample_judged file b (layout_at file p) (sampled_at file (layout_at file p))
    unfolding next_sample
    next-read h = rw (le-leb (length file) 60000 limit, accepts (layout_at file p) (layout_checks file p) h)

    pub next-unread : (code position : ℕ) → layout_read file p ≡ refused code position → next_sample file b p ≡ refused_with file b code position
    unfolding next_sample
    next-unread code position e = rw (le-leb (length file) 60000 limit, e)

  module _ (after : SampleBuffers) (a : Result Sampled Refusal) (e : outcome a after ≡ next_sample file b p) where
    -- how a refused sample ends the lesson
    module _ (f : Refusal) (i : a ≡ Err f) where
      refused-outcome : outcome (Err f) after ≡ next_sample file b p
      refused-outcome = sym (ap (λ a. outcome a after) i) ∙ e

      -- a refusal without a sample
      same_refusal : (number position : ℕ) → next_sample file b p ≡ refused_with file b number position → (f.code ≡ number) × (f.position ≡ position) × (after ≡ b)
      same_refusal number position d =
          let r = refused-outcome ∙ d in
          let g : ◌≡◌ {A = Verdict Sampled} (refused f.code f.position) (refused number position) = ap (λ o. o.answer) r in
          (cc, cc, ap (λ o. o.buffers) r)

      pub next-refused : length file ≤ 60000 → p < length file → ((lesson_from file p).samples ≡ []) × (ending_verdict (lesson_from file p).ending ≡ refused f.code f.position) × (after ≡ after_lesson (lesson_from file p) b)
      unfolding after_lesson after_samples
      next-refused limit o = go (layout_read file p) refl
        where
          go : (v : Verdict Layout) → layout_read file p ≡ v → ((lesson_from file p).samples ≡ []) × (ending_verdict (lesson_from file p).ending ≡ refused f.code f.position) × (after ≡ after_lesson (lesson_from file p) b)
          go (accepted l) d =
              let h = accepted-holds (layout_at file p) l (layout_checks file p) d in
              let r = settled-refused _ _ _ (refused-outcome ∙ next-read limit h) in
              rw (lesson-unfit file p f.code f.position o h (refuses-alike _ tt f.code f.position _ r.0)) (refl, refl, r.1)
          go (refused c m) d =
              let r = same_refusal c m (next-unread limit c m d) in
              rw (lesson-unread file p c m o d, r.0, r.1) (refl, refl, r.2)

      pub next_too_long : 60000 < length file → (f.code ≡ 21) × (f.position ≡ 0) × (after ≡ b)
      next_too_long l = same_refusal 21 0 (next-long l)

    -- that a sample was made
    module _ (m : Sampled) (i : a ≡ Ok m) where
      done : outcome (Ok m) after ≡ next_sample file b p
      done = sym (ap (λ a. outcome a after) i) ∙ e

      pub next-limit : length file ≤ 60000
      next-limit = go (dec_le (length file) 60000)
        where
          go : Dec (length file ≤ 60000) → length file ≤ 60000
          go (yes h) = h
          go (no h) = absurd (not_both (ap (λ a. a.answer) (done ∙ next-long (omega arith))))

      layout_holds : (v : Verdict Layout) → layout_read file p ≡ v → Hold (layout_checks file p)
      layout_holds (accepted l) d = accepted-holds (layout_at file p) l (layout_checks file p) d
      layout_holds (refused c r) d = absurd (not_both (ap (λ a. a.answer) (done ∙ next-unread next-limit c r d)))

      fit-accepted : verdict (fit_checks file (layout_at file p)) (sampled_at file (layout_at file p)) ≡ accepted m
      fit-accepted = sym (settled-answer _ _ _) ∙ sym (ap (λ a. a.answer) (done ∙ next-read next-limit (layout_holds (layout_read file p) refl)))

      pub next-holds : Hold (layout_checks file p) × Hold (fit_checks file (layout_at file p))
      next-holds = (layout_holds (layout_read file p) refl, accepted-holds _ m _ fit-accepted)

      pub next-sampled : (m ≡ sampled_at file (layout_at file p)) × (after ≡ sampled_in (sample_of file (layout_at file p)) b)
      next-sampled = (accepted-answer _ m _ fit-accepted, ap (λ a. a.buffers) (done ∙ next-read next-limit next-holds.0 ∙ settled-accepted _ _ _ _ next-holds.1))
