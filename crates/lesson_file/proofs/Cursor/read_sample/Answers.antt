-- PM is read, and behind it the lists and RW.
use mathlib.Core.Path.{◌≡◌, sym, ap, ◌∙◌}
use Prim.Native.Nat.{◌+◌}
use Rattle.checks.specs.Checks.{verdict}
use Rattle.checks.specs.Laws.{Hold, accepted-holds, accepted-answer, passes-part}
use Rattle.lesson_file.specs.Records.{parameters_at, parameters_checks, strings_checks, layout_from, layout_at, layout_checks}
use Rattle.lesson_file.specs.declared.Parameters.{Parameters}
use Rattle.lesson_file.proofs.Refused.{value_refused}
use Rattle.lesson_file.proofs.Cursor.read_sample.Goals as goal
use Rattle.lesson_file.proofs.Cursor.read_sample.Goals.{In_ok-parameters}

passed : (c : In_ok-parameters) → Hold (parameters_checks c.args.file.now c.args.self.at)
passed c = accepted-holds _ _ _ (sym c.in_ok-parameters.ensures)

parameters : (c : In_ok-parameters) → c.in_ok-parameters.parameters ≡ parameters_at c.args.file.now c.args.self.at
parameters c = accepted-answer _ _ _ (sym c.in_ok-parameters.ensures)

pub returns-in_err-parameters : goal.returns-in_err-parameters
unfolding layout_checks
returns-in_err-parameters c = value_refused _ _ _ _ _ c.read_parameters.ensures _ c.in_err-parameters.was c.from_residual.ensures.1

pub returns : goal.returns
unfolding layout_at layout_checks
returns c =
    let a = c.args in
    c.read_strings.ensures
    ∙ ap (λ (p : Parameters). verdict (strings_checks a.file.now (a.self.at + 6) p.n) (layout_from a.file.now (a.self.at + 6) p)) (parameters (goal.at.returns c).In_ok-parameters)
    ∙ sym (passes-part _ (parameters_checks a.file.now a.self.at) _ (passed (goal.at.returns c).In_ok-parameters))
