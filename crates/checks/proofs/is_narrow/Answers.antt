use native.Mathlib.Omega.{arith}
use Rattle.checks.proofs.Shift.{narrow_word}
use Rattle.checks.proofs.is_narrow.Goals as goal

pub returns : goal.returns
returns c = rw (c.from.ensures, c.min.ensures) (narrow_word c.args.value c.args.k (omega arith))
