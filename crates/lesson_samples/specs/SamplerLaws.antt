-- What the sampler's outcome says of a sample of a lesson file.
use Rattle.std.specs.Prelude.{◌≡◌, Result, Ok, Err, List, ℕ, ◌+◌, length}
use Rattle.std.proofs.Math.Path.{sym, ap}
use Rattle.std.proofs.Common.{◌∙◌, arith, le-leb, eq-eqb}
use Rattle.std.proofs.Math.Nat.{zero-add}
use Rattle.buffers.specs.Overwrite.{overwrite}
use Rattle.checks.specs.Checks.{Check, accepted, refused, verdict, settled, parameter_checks, exactly, room_checks}
use Rattle.checks.specs.Laws.{Hold, pass, accepted-holds, accepted-answer, passes-part, passes-behind, settled-done, settled-refused, settled-accepted, within_true}
use Rattle.totals.specs.Sample.{sample_words}
use Rattle.sampler.specs.Sampler.{sample_checks, both, sampled}
use Rattle.checks.specs.declared.Refusal.{Refusal}
use Rattle.checks.specs.Answers.{outcome}
use Rattle.lesson_file.specs.Records.{Sample, sample_of}
use Rattle.lesson_file.specs.RecordLaws.{length-words, located-holds, located-refuses}
use Rattle.lesson_samples.specs.Call.{SampleBuffers, sample_buffers, loaded, sampled_in}
use Rattle.lesson_file.specs.declared.Layout.{Layout}
use Rattle.lesson_samples.specs.Lesson.{other_checks, record_of, fit_checks}
use Rattle.lesson_samples.specs.Steps.{SampleRoom, sample_judged}
use Rattle.lesson_file.specs.Layouts.{WholeSample}

module _ (file : List ℕ) (l : Layout) (w : WholeSample file l) (b : SampleBuffers) (r : SampleRoom (length b.words) (length b.out) (length b.work)) where
  abbrev s : Sample
  s = sample_of file l

  -- the position after its last word
  abbrev end : ℕ
  end = 0 + sample_words s.n s.k

  abbrev checks : List Check
  checks = sample_checks s.n s.k s.q s.x s.y s.words 0 (length b.out) (length b.work)

  room : Hold (room_checks s.n (length b.out) s.n (length b.work))
  unfolding sample_of
  room =
      let eight = (within_true 2 8 s.n w.parameters.0).1 in
      (le-leb s.n (length b.out) (omega (arith, eight, r.share-room)), (le-leb s.n (length b.work) (omega (arith, eight, r.total-room)), tt))

  -- the sampler's first checks hold, and so do its last
  others_decide : verdict checks end ≡ verdict (other_checks s) end
  unfolding sample_of
  others_decide =
      passes-part end (parameter_checks s.n s.k s.q) _ w.parameters
      ∙ pass end (exactly 4 s.n s.x) _ (eq-eqb _ _ (length-words file _ _))
      ∙ pass end (exactly 5 s.n s.y) _ (eq-eqb _ _ (length-words file _ _))
      ∙ passes-behind end (other_checks s) (room_checks s.n (length b.out) s.n (length b.work)) room

  -- what the code learns from the sampler's answer
  module _ (words out work : List ℕ) (m : words ≡ overwrite b.words 0 s.words) (a : Result ℕ Refusal) (e : outcome a (both out work) ≡ sampled s.n s.k s.q s.x s.y s.words 0 b.out b.work) where
    pub judged-done : (used : ℕ) → a ≡ Ok used → record { answer = accepted used; buffers = sample_buffers words out work } ≡ sample_judged file b l (sample_words s.n s.k)
    unfolding sampled fit_checks sample_of
    judged-done used i =
        let d = settled-done _ _ _ (sym (ap (λ a. outcome a (both out work)) i) ∙ e) in
        let v = sym others_decide ∙ d.0 in
        let h = located-holds (record_of l) (other_checks s) (accepted-holds end used (other_checks s) v) in
        let t = accepted-answer end used (other_checks s) v ∙ zero-add (sample_words s.n s.k) in
        rw (m, t)
        (ap (λ c. record { answer = accepted (sample_words s.n s.k); buffers = sample_buffers (overwrite b.words 0 s.words) c.out c.work }) d.1
        ∙ sym (settled-accepted (sample_words s.n s.k) (fit_checks file l) (loaded s b) (sampled_in s b) h))

    pub judged-refused : (f : Refusal) (position : ℕ) → a ≡ Err f → position ≡ record_of l f.code → record { answer = refused f.code position; buffers = sample_buffers words out work } ≡ sample_judged file b l (sample_words s.n s.k)
    unfolding sampled fit_checks sample_of
    judged-refused f position i j =
        let d = settled-refused _ _ _ (sym (ap (λ a. outcome a (both out work)) i) ∙ e) in
        let v = located-refuses (record_of l) end (sample_words s.n s.k) f.code f.position (other_checks s) (sym others_decide ∙ d.0) in
        rw (m, j)
        (ap (λ c. record { answer = refused f.code (record_of l f.code); buffers = sample_buffers (overwrite b.words 0 s.words) c.out c.work }) d.1
        ∙ ap (λ u. settled u (loaded s b) (sampled_in s b)) (sym v))
