-- The first i totals have moved.
use mathlib.Core.Path.{◌≡◌}
use Prim.Native.Nat.{◌≤◌}
use lib.ListN.{length}
use Rattle.buffers.specs.Overwrite.{overwrite}
use Rattle.buffers.specs.Positions.{at, table}
use Rattle.totals.proofs.move_totals.Given as goal

abbrev pub invariant-loop-i : goal.invariant-loop-i
invariant-loop-i l =
    (l.i ≤ l.n) × (l.work ≡ overwrite l.initial.work 0 (table l.i (λ t. 0))) × (l.out ≡ overwrite l.initial.out 0 (table l.i (at l.initial.work))) × (length l.work ≡ length l.initial.work) × (length l.out ≡ length l.initial.out)
