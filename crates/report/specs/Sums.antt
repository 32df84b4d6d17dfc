-- The last line of every report agrees with the lines above it.
use Rattle.std.specs.Prelude.{◌≡◌, List, map, ℕ, ℤ, length}
use Rattle.std.proofs.Common.{◌∙◌}
use Rattle.std.proofs.lemmas.List.{length-map}
use Rattle.residue.specs.Residue.{total}
use Rattle.tally.specs.Tally.{Line, EachSmall, lines, sumℤ, square, squares}
use Rattle.tally.specs.LineLaws.{line_total, line_sum}
use Rattle.tally.proofs.LineLaws.{total-printed, sum-printed, squares-printed}
use Rattle.lesson_samples.specs.Lesson.{value_of, lesson}
use Rattle.report.specs.Report.{values_of}
use Rattle.report.specs.Room.{fit-values, samples-fit}

module _ (file : List ℕ) where
  abbrev values : List ℤ
  values = values_of (lesson file).samples

  abbrev printed : List Line
  printed = lines values

  each : EachSmall values
  each = fit-values (lesson file).samples (samples-fit file).0

  -- the total, which is the number of samples, is the sum of the printed counts
  pub total_agrees : total (map (λ l. l.count) printed) ≡ length (lesson file).samples
  total_agrees = total-printed values each ∙ length-map (lesson file).samples value_of

  -- the sum of the samples is that of sample × count
  pub sum_agrees : line_sum printed ≡ sumℤ values
  sum_agrees = sum-printed values each

  -- and the sum of their squares that of sample² × count
  pub squares-agree : line_total square printed ≡ squares values
  squares-agree = squares-printed values each
