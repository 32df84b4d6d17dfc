-- The checks' verdict, and behind them a residue below q.
use mathlib.Core.Path.{sym, ap, ◌∙◌}
use borrow.Author.Tests.{ltb-true}
use Rattle.residue.proofs.Signed.{read_back}
use Rattle.checks.specs.Checks.{accepted}
use Rattle.checks.proofs.Settles.{checks-hold, checks_passed, checks_refused}
use Rattle.binomial.specs.Signed.{centred}
use Rattle.binomial.proofs.centre.Goals as goal

pub returns-in_err-check_centre : goal.returns-in_err-check_centre
unfolding centred
returns-in_err-check_centre c = checks_refused _ _ c.check_centre.ensures (λ z. z) _ _ c.in_err-check_centre.was c.from_residual.ensures.1

pub centred_value-requires : goal.centred_value-requires
centred_value-requires c = ltb-true _ _ (checks-hold _ _ c.check_centre.ensures c.in_ok-check_centre.was).1.0

pub returns : goal.returns
unfolding centred
returns c =
    ap accepted (read_back c.centred_value.result c.centred_value.type_inv ∙ c.centred_value.ensures)
    ∙ sym (checks_passed _ _ c.check_centre.ensures _ c.in_ok-check_centre.was)
