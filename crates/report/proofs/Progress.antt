-- How far the samples have been counted: those that the walk has made.
use mathlib.Core.Path.{◌≡◌, sym, ap, ap₂, ◌∙◌}
use mathlib.Core.List.{List, [], ◌∷◌, ◌++◌, map-append}
use Prim.Native.Nat.{ℕ, ◌≤◌}
use native.Mathlib.Omega.{arith}
use lib.IntN.{nat_abs}
use lib.ListN.{length, length-append, length-map}
use Rattle.tally.specs.Counted.{tally_of}
use Rattle.tally.specs.Bounds.{Room}
use Rattle.tally.specs.OneMore.{with_one}
use Rattle.tally.proofs.OneMore.{tally_one}
use Rattle.tally.specs.declared.Tally.{Tally}
use Rattle.checks.specs.Checks.{Verdict}
use Rattle.lesson_file.specs.Records.{Sample}
use Rattle.lesson_samples.specs.Lesson.{value_of, lesson, ending_verdict}
use Rattle.lesson_samples.specs.Call.{SampleBuffers, after_lesson}
use Rattle.lesson_samples.specs.Walk as walk
use Rattle.lesson_samples.specs.Walk.{Walk, Walked}
use Rattle.report.specs.Report.{values_of, lengths_of}
use Rattle.report.specs.Counted.{tallied}
use Rattle.report.specs.Room.{Fit, fit-front, samples-fit, tallied-room}

pub record Progress (file : List ℕ) (first now : SampleBuffers) (t : Tally) (p : ℕ) : Type 0 where
  pub done : List Sample
  pub walk : Walk file first now done p
  pub counted : t ≡ tallied done

module _ (file : List ℕ) (first : SampleBuffers) where
  pub begun : (t : Tally) → t ≡ tally_of [] [] → Progress file first first t 0
  begun t e = record { done = []; walk = walk.begun file first; counted = e }

  module _ (now : SampleBuffers) (t : Tally) (p : ℕ) (g : Progress file first now t p) where
    -- no sample is left
    pub finished : (after : SampleBuffers) (v : Verdict Unit) → Walked file first after g.done v → (after ≡ after_lesson (lesson file) first) × (t ≡ tallied (lesson file).samples) × (v ≡ ending_verdict (lesson file).ending)
    finished after v w = (w.buffers, g.counted ∙ ap tallied (sym w.samples), sym w.ending)

    -- one sample more
    module _ (s : Sample) (after : SampleBuffers) (r : ℕ) (w : Walk file first after (g.done ++ (s ∷ [])) r) where
      fit : Fit (g.done ++ (s ∷ []))
      fit = fit-front (g.done ++ (s ∷ [])) (walk.rest_from file r).samples (rw w.samples (samples-fit file).0)

      few : length g.done ≤ 60000
      few = omega (arith, length-append g.done (s ∷ []), length-append (g.done ++ (s ∷ [])) (walk.rest_from file r).samples, ap length w.samples, (samples-fit file).1)

      pub count_room : Room t
      count_room = rw g.counted (tallied-room g.done (fit-front g.done (s ∷ []) fit) few)

      pub advanced : (u : Tally) → u ≡ with_one t s.k (value_of s) → nat_abs (value_of s) ≤ 16 → Progress file first after u r
      advanced u e h =
          let ks = lengths_of g.done in
          let zs = values_of g.done in
          record {
            done = g.done ++ (s ∷ []);
            walk = w;
            counted =
                e ∙ ap (λ (t : Tally). with_one t s.k (value_of s)) g.counted
                ∙ tally_one ks zs s.k (value_of s) h (length-map g.done (λ s. s.k) ∙ sym (length-map g.done value_of))
                ∙ ap₂ tally_of (sym (map-append (λ s. s.k) g.done (s ∷ []))) (sym (map-append value_of g.done (s ∷ [])));
          }
