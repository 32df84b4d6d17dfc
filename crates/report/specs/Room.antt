-- What holds of the samples of every file and of their tally, and that there is room for the report of every file.
use Rattle.std.specs.Prelude.{◌≡◌, Bool, true, false, not, List, [], ◌∷◌, ◌++◌, ℕ, zero, suc, ◌*◌, ◌-◌, ◌^◌, ◌≤◌, ◌<◌, ℤ, nat_abs, pos, ◌-ℤ◌, length}
use Rattle.std.proofs.Math.Decide.{dec_le, ℕ_discrete}
use Rattle.std.proofs.Common.{add-one, arith, length-append}
use Rattle.std.proofs.lemmas.List.{length-map}
use Rattle.residue.proofs.Integers.{minus-above, minus-below}
use Rattle.buffers.specs.Positions.{at}
use Rattle.checks.specs.Checks.{Verdict, accepted, refused}
use Rattle.pairs.specs.Pairs.{pairs}
use Rattle.pairs.specs.PairLaws.{pairs_le, power_lt}
use Rattle.tally.specs.Tally.{EachSmall, occurrences, line_of, sample_at, sumℤ, squares, first_of, agree}
use Rattle.tally.specs.Bounds.{Room, occurrences_le, sum_le, squares_le, tally_room}
use Rattle.text.specs.Text.{decimal, signed, spaced}
use Rattle.text.specs.Laws.{decimal-length, signed-length, length-line}
use Rattle.lesson_file.specs.Layouts.{whole-sample, layout_end, layout_longer}
use Rattle.lesson_file.specs.Records.{Sample, layout_at}
use Rattle.lesson_samples.specs.Lesson.{value_of, lesson, lesson_from, ending_verdict}
use Rattle.lesson_samples.specs.SampleLaws.{sample-pair, value-small}
use Rattle.lesson_samples.specs.LessonLaws.{lesson-holds}
use Rattle.lesson_samples.specs.RefusalLine.{ending_line}
use Rattle.lesson_samples.specs.RefusalLaws.{ending_short}
use Rattle.lesson_samples.specs.Walk.{whole-holds}
use Rattle.report_lines.specs.Lines.{exact_fields, lines_text, last_line}
use Rattle.report_lines.specs.Laws.{length_exact, length_last, line_absent, line_present, first_lines, lines_none, lines_next}
use Rattle.report.specs.Report.{values_of, lengths_of, samples_text, ended_text, text_of, report_text, report_room}
use Rattle.report.specs.Counted.{tallied}

-- ---- the samples of a file

-- each is from -16 to 16, of at most 16 bits
abbrev pub Fit : List Sample → Type 0
Fit [] = Unit
Fit (s ∷ samples) = (nat_abs (value_of s) ≤ 16) × (s.k ≤ 16) × Fit samples

pub fit-front : (a b : List Sample) → Fit (a ++ b) → Fit a
fit-front [] b h = tt
fit-front (s ∷ a) b h = (h.0, h.1, fit-front a b h.2)

pub fit-values : (samples : List Sample) → Fit samples → EachSmall (values_of samples)
fit-values [] h = tt
fit-values (s ∷ samples) h = (h.0, fit-values samples h.2)

pub fit-bits : (samples : List Sample) → Fit samples → first_of (lengths_of samples) ≤ 16
fit-bits [] h = omega arith
fit-bits (s ∷ samples) h = h.1

module _ (file : List ℕ) where
  samples_from_lem : (p : ℕ) → Fit (lesson_from file p).samples × (length (lesson_from file p).samples ≤ length file - p)
  samples_from_lem =
      lesson-holds file (λ p l. Fit l.samples × (length l.samples ≤ length file - p))
      (λ p. (tt, omega arith))
      (λ p code position o e. (tt, omega arith))
      (λ p code position o h e. (tt, omega arith))
      (λ p o h g behind. let w = whole-sample file p h in ((value-small file (layout_at file p) w g, (sample-pair file (layout_at file p) w g).sixteen, behind.0), omega (arith, behind.1, layout_longer file p, layout_end file p h)))

  pub samples-fit : Fit (lesson file).samples × (length (lesson file).samples ≤ 60000)
  samples-fit =
      whole-holds file (λ l. Fit l.samples × (length l.samples ≤ 60000)) (λ h. ((samples_from_lem 0).0, omega (arith, (samples_from_lem 0).1))) (λ long. (tt, omega arith))

-- their tally does not overflow
pub tallied-room : (samples : List Sample) → Fit samples → length samples ≤ 60000 → Room (tallied samples)
tallied-room samples f h = tally_room (lengths_of samples) (values_of samples) (fit-values samples f) (omega (arith, length-map samples value_of))

-- ---- how long the lines are

exact_length : (mixed : Bool) (ways power : ℕ) → ways < 10 ^ 10 → power < 10 ^ 10 → length (spaced (exact_fields mixed ways power)) ≤ 22
unfolding spaced
exact_length true ways power h l = omega arith
exact_length false ways power h l = omega (arith, length_exact ways power, decimal-length ways 10 h (omega arith), decimal-length power 10 l (omega arith))

sample-small : (e : ℕ) → e < 33 → nat_abs (sample_at e) ≤ 16
sample-small e h = go (dec_le 16 e)
  where
    go : Dec (16 ≤ e) → nat_abs (pos e -ℤ pos 16) ≤ 16
    go (yes l) = rw (minus-above e 16 l) (omega arith)
    go (no g) =
        let l : e < 16 = omega arith in
        rw (minus-below e 16 l) (omega arith)

module _ (mixed : Bool) (k : ℕ) (h : k ≤ 16) where
  line-length : (d : ℤ) (times : ℕ) → nat_abs d ≤ 16 → times < 10 ^ 5 → length (lines_text mixed k (line_of d times)) ≤ 32
  line-length d times a b = go (ℕ_discrete times 0)
    where
      go : Dec (times ≡ 0) → length (lines_text mixed k (line_of d times)) ≤ 32
      go (yes e) = rw (line_absent mixed k d times e) (omega arith)
      go (no e) = rw (line_present mixed k d times e) (omega (arith, length-line (signed d) (decimal times) (exact_fields mixed (pairs k d) (4 ^ k)), signed-length d 2 (omega arith) (omega arith), decimal-length times 5 b (omega arith), exact_length mixed (pairs k d) (4 ^ k) (omega (arith, pairs_le k d, power_lt k h)) (power_lt k h)))

  lines-length : (n : ℕ → ℕ) → ((e : ℕ) → n e < 10 ^ 5) → (m : ℕ) → m ≤ 33 → length (first_lines mixed k n m) ≤ 32 * m
  lines-length n b zero l = rw (lines_none mixed k n) (omega arith)
  lines-length n b (suc m) l =
      rw (← add-one m, lines_next mixed k n m, length-append)
      (omega (arith, lines-length n b m (omega arith), line-length (sample_at m) (n m) (sample-small m l) (b m)))

last-length : (sum : ℤ) (squares total : ℕ) → nat_abs sum < 10 ^ 6 → squares < 10 ^ 8 → total < 10 ^ 5 → length (last_line sum squares total) ≤ 23
last-length sum squares total h l m = omega (arith, length_last sum squares total, signed-length sum 6 h (omega arith), decimal-length squares 8 l (omega arith), decimal-length total 5 m (omega arith))

samples-room : (samples : List Sample) → Fit samples → length samples ≤ 60000 → length (samples_text samples) ≤ report_room
unfolding samples_text
samples-room samples f h =
    let zs = values_of samples in
    let m : length zs ≤ 60000 = omega (arith, length-map samples value_of) in
    let v = fit-values samples f in
    rw length-append
    (omega (
      arith,
      lines-length (not (agree (lengths_of samples))) (first_of (lengths_of samples)) (fit-bits samples f) (λ e. occurrences (sample_at e) zs) (λ e. omega (arith, occurrences_le (sample_at e) zs)) 33 (omega arith),
      last-length (sumℤ zs) (squares zs) (length samples) (omega (arith, sum_le zs v)) (omega (arith, squares_le zs v)) (omega arith),
    ))

-- ---- the whole report

pub report_length : (file : List ℕ) → ((i : ℕ) → at file i < 256) → length (report_text file) ≤ report_room
unfolding text_of
report_length file bytes = go (ending_verdict (lesson file).ending) (ending_short file bytes)
  where
    go : (v : Verdict Unit) → length (ending_line v) ≤ 17 → length (ended_text (samples_text (lesson file).samples) v) ≤ report_room
    go (accepted a) h = samples-room (lesson file).samples (samples-fit file).0 (samples-fit file).1
    go (refused code position) h = omega arith
