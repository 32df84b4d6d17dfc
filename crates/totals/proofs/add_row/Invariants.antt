-- The first i totals have their share.
use mathlib.Core.Path.{◌≡◌}
use lib.ListN.{length}
use Rattle.buffers.specs.Overwrite.{overwrite}
use Rattle.buffers.specs.Positions.{at, table}
use Rattle.totals.specs.Totals.{signed_sum}
use Rattle.totals.proofs.add_row.Given as goal

abbrev pub invariant-loop-i : goal.invariant-loop-i
invariant-loop-i l =
    (l.work ≡ overwrite l.initial.work 0 (table l.i (λ t. signed_sum l.q l.negative (at l.initial.work t) (at l.row t)))) × (length l.work ≡ length l.initial.work)
