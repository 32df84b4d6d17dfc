-- A refusal in either order is handed on.
use Rattle.std.proofs.Common.{rules, ap, ◌∙◌}
use Rattle.checks.specs.Checks.{verdict}
use Rattle.checks.specs.Answers.{reading}
use Rattle.checks.proofs.Settles.{handed_on}
use Rattle.lesson_file.proofs.Cursor.read_lists.Goals as goal
use Rattle.lesson_file.proofs.Cursor.read_lists.Goals.{then-y_first, else-y_first}

pub returns-in_err-check_lists : goal.returns-in_err-check_lists
unfolding verdict
returns-in_err-check_lists c =
    ap reading (handed_on _ _ c.from_residual.ensures.1)
    ∙ elim c.if-y_first.branch [ then-y_first w ↦ search rules | else-y_first w ↦ search rules ]
