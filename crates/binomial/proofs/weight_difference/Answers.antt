-- The checks' verdict, and behind them the difference of the two weights.
use mathlib.Core.Path.{sym, ap, ap₂, ◌∙◌}
use Prim.Native.Nat.{ℕ}
use lib.IntN.{pos, ◌-ℤ◌}
use Rattle.residue.proofs.Signed.{read_back}
use Rattle.checks.specs.Checks.{accepted}
use Rattle.checks.proofs.Settles.{checks_passed, checks_refused}
use Rattle.binomial.specs.Signed.{weight_difference}
use Rattle.binomial.proofs.weight_difference.Goals as goal

pub returns-in_err-check_weights : goal.returns-in_err-check_weights
unfolding weight_difference
returns-in_err-check_weights c = checks_refused _ _ c.check_weights.ensures (λ z. z) _ _ c.in_err-check_weights.was c.from_residual.ensures.1

pub returns : goal.returns
unfolding weight_difference
returns c =
    ap accepted (read_back c.difference.result c.difference.type_inv ∙ c.difference.ensures
    ∙ ap₂ (λ (x y : ℕ). pos x -ℤ pos y) (c.from_u16-wx.ensures ∙ c.weight.ensures) (c.from_u16-wy.ensures ∙ c.weight-2.ensures))
    ∙ sym (checks_passed _ _ c.check_weights.ensures _ c.in_ok-check_weights.was)
