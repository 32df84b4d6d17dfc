-- The first four checks held, and then a share is too wide, or the last three decide.
use mathlib.Core.Path.{sym, ◌∙◌}
use borrow.Author.Tests.{le-leb, eq-eqb}
use Rattle.checks.specs.Laws.{Past, pass, pass-none, fail-some, first_position}
use Rattle.conversion.specs.Conversion.{value_checks}
use Rattle.conversion.proofs.check_value.Goals as goal
use Rattle.conversion.proofs.check_value.Goals.{Else-shares-n}

past4 : (c : Else-shares-n) → Past ((let a = c.args in value_checks a.n a.k a.q a.shares.now a.words.now a.start a.room)) 4
past4 c = pass tt _ _ (sym c.within.ensures ∙ c.if-not-within.false) ∙ pass tt _ _ (sym c.within-2.ensures ∙ c.if-not-within-2.false) ∙ pass tt _ _ (le-leb _ _ c.if-q-lt3.false) ∙ pass tt _ _ (eq-eqb _ _ c.if-shares-n.false)

pub returns-in-Some : goal.returns-in-Some
returns-in-Some c =
    (rw c.into-in-Some.ensures at c.refuse-in-Some.ensures)
    ∙ sym (past4 (goal.at.returns-in-Some c).Else-shares-n ∙ fail-some tt _ _ _ _ _ _ (first_position _ _ ∙ sym c.first_wide.ensures ∙ c.in-Some.is))

pub returns : goal.returns
returns c =
    c.check_output.ensures
    ∙ sym (past4 (goal.at.returns c).Else-shares-n ∙ pass-none tt _ _ _ _ _ (first_position _ _ ∙ sym c.first_wide.ensures ∙ c.in_default.is))
