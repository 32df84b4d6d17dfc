-- The table of the code is the table of the definition.
use mathlib.Core.Path.{sym, ◌∙◌}
use Rattle.checks.specs.Laws.{fail, accepts}
use Rattle.binomial.specs.Sets.{sets, parameter_set}
use Rattle.binomial.proofs.parameter_set.Goals as goal

pub returns-then-not-within : goal.returns-then-not-within
unfolding parameter_set
returns-then-not-within c = (rw c.into.ensures at c.refuse.ensures) ∙ sym (fail _ _ _ (sym c.within.ensures ∙ c.if-not-within.true))

pub returns : goal.returns
unfolding parameter_set sets
returns c = sym (accepts _ _ (sym c.within.ensures ∙ c.if-not-within.false, tt))
