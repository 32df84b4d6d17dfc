-- What it means, in plain facts, that a sample of a lesson file is accepted.
use Rattle.std.specs.Prelude.{◌≡◌, Result, Ok, Err, List, [], ◌∷◌, ℕ, ◌+◌, ◌≤◌, ℤ, nat_abs, take}
use Rattle.std.proofs.Common.{sym, ◌∙◌, arith, leb-true, eq-eqb}
use Rattle.std.proofs.Math.Path.{ap}
use Rattle.std.proofs.Math.Nat.{zero-add}
use Rattle.std.proofs.Math.ListN.{length}
use Rattle.residue.specs.Residue.{reduce, total, EachBelow}
use Rattle.buffers.specs.Overwrite.{overwrite}
use Rattle.buffers.specs.Laws.{take-front, length-overwrite}
use Rattle.checks.specs.Checks.{accepted, refused, verdict, settled, parameter_checks, exactly, narrow}
use Rattle.checks.specs.Laws.{Hold, hold-both, accepted-holds, accepted-answer, refuses-alike, settled-done, settled-refused, settled-accepted}
use Rattle.checks.specs.declared.Refusal.{Refusal}
use Rattle.checks.specs.Answers.{outcome}
use Rattle.binomial.specs.Signed.{centred_value}
use Rattle.totals.specs.Sample.{sample_words}
use Rattle.sampler.specs.Accepted.{SharedPair, shared_pair}
use Rattle.sampler.proofs.Calls.{length-shares, shares-below}
use Rattle.sampler.proofs.Opened.{sample_le, shares-centred}
use Rattle.lesson_file.specs.Records.{Sample, sample_of}
use Rattle.lesson_file.specs.RecordLaws.{holds-located, length-words}
use Rattle.lesson_file.specs.Layouts.{WholeSample}
use Rattle.lesson_file.specs.declared.Layout.{Layout}
use Rattle.lesson_samples.specs.Lesson.{shares_of, value_of, other_checks, record_of, fit_checks}
use Rattle.lesson_samples.specs.Call.{SampleBuffers, loaded, sampled_in}
use Rattle.lesson_samples.specs.Steps.{sampled_at, sample_judged}

module _ (file : List ℕ) (l : Layout) (w : WholeSample file l) (g : Hold (fit_checks file l)) where
  abbrev s : Sample
  s = sample_of file l

  others : Hold (other_checks s)
  unfolding fit_checks
  others = holds-located (record_of l) (other_checks s) g

  pub sample-pair : SharedPair s.n s.k s.q s.x s.y
  unfolding sample_of
  sample-pair =
      shared_pair s.n s.k s.q s.x s.y
      (hold-both (parameter_checks s.n s.k s.q) (exactly 4 s.n s.x ∷ exactly 5 s.n s.y ∷ narrow 6 s.k s.x ∷ narrow 7 s.k s.y ∷ []) w.parameters (eq-eqb _ _ (length-words file _ _), (eq-eqb _ _ (length-words file _ _), (others.0, (others.1.0, tt)))))

  -- RW has the words that the sample takes
  pub sample-words : sample_words l.parameters.n l.parameters.k ≤ l.count
  unfolding sample_of
  sample-words = rw (← length-words file (l.lists.next.at + 4) l.count, ← zero-add (sample_words s.n s.k)) (leb-true _ _ others.1.1.0)

  -- its value is from -16 to 16
  pub value-small : nat_abs (value_of s) ≤ 16
  value-small = omega (arith, sample_le sample-pair, sample-pair.sixteen)

  -- its shares, in front of the output
  module _ (out after : List ℕ) (e : after ≡ overwrite out 0 (shares_of s)) where
    pub shares-taken : take l.parameters.n after ≡ shares_of s
    unfolding sample_of
    shares-taken = rw e (take-front out (shares_of s) s.n (length-shares s.n s.k s.q s.x s.y s.words))

    pub shares-fit : 8 ≤ length out → l.parameters.n ≤ length after
    unfolding sample_of
    shares-fit h =
        let m = length-shares s.n s.k s.q s.x s.y s.words in
        omega (arith, sample-pair.eight, ap length e ∙ length-overwrite out 0 (shares_of s) (omega (arith, m, sample-pair.eight)))

    pub taken-below : EachBelow l.parameters.q (take l.parameters.n after)
    unfolding sample_of
    taken-below = rw shares-taken (shares-below sample-pair s.words)

    -- they give its value
    pub opened_value : centred_value l.parameters.q (reduce l.parameters.q (total (take l.parameters.n after))) ≡ value_of s
    unfolding sample_of
    opened_value = rw shares-taken (shares-centred sample-pair s.words)

-- what the code learns from the sampler's answer
module _ (file : List ℕ) (l : Layout) (b after : SampleBuffers) (a : Result ℕ Refusal) (e : outcome a after ≡ sample_judged file b l (sample_words l.parameters.n l.parameters.k)) where
  module _ (used : ℕ) (i : a ≡ Ok used) where
    settled_as : (verdict (fit_checks file l) (sample_words l.parameters.n l.parameters.k) ≡ accepted used) × (after ≡ sampled_in (sample_of file l) b)
    settled_as = settled-done _ _ _ (sym (ap (λ a. outcome a after) i) ∙ e)

    pub made_holds : Hold (fit_checks file l) × (after ≡ sampled_in (sample_of file l) b)
    made_holds = (accepted-holds _ used _ settled_as.0, settled_as.1)

    pub made_done : (value : ℤ) → value ≡ value_of (sample_of file l) → record { answer = accepted record { parameters = l.parameters; used = used; value = value; next = l.next }; buffers = after } ≡ sample_judged file b l (sampled_at file l)
    made_done value v = rw (v, accepted-answer _ used _ settled_as.0, made_holds.1) (sym (settled-accepted (sampled_at file l) (fit_checks file l) _ _ made_holds.0))

  pub made_refused : (f : Refusal) → a ≡ Err f → record { answer = refused f.code f.position; buffers = after } ≡ sample_judged file b l (sampled_at file l)
  made_refused f i =
      let d = settled-refused _ _ _ (sym (ap (λ a. outcome a after) i) ∙ e) in
      rw d.1 (ap (λ v. settled v (loaded (sample_of file l) b) (sampled_in (sample_of file l) b)) (sym (refuses-alike _ (sampled_at file l) f.code f.position _ d.0)))
