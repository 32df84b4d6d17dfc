-- What document 01 says for each case of the answers in the code.
use Rattle.std.specs.Prelude.{ℕ, Result}
use Rattle.checks.specs.Checks.{Verdict}
use Rattle.checks.specs.Answers.{reading_by}
use Rattle.checks.specs.declared.Refusal.{Refusal}
use Rattle.masking.specs.declared.OpenedString.{OpenedString}
use Rattle.masking.specs.declared.OpenedResidue.{OpenedResidue}

abbrev pub string_reading : Result OpenedString Refusal → Verdict ℕ
string_reading r = reading_by (λ s. s.0) r

abbrev pub residue_reading : Result OpenedResidue Refusal → Verdict ℕ
residue_reading r = reading_by (λ s. s.0) r
