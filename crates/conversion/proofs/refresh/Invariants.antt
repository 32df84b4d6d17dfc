-- Share after share: its pairs are taken, and it is written to the row.
use mathlib.Core.Path.{◌≡◌}
use Prim.Native.Nat.{◌+◌, ◌-◌, ◌≤◌}
use lib.ListN.{length}
use Rattle.buffers.specs.Overwrite.{overwrite}
use Rattle.buffers.specs.Positions.{at, table, after}
use Rattle.conversion.specs.Conversion.{pairs, refresh}
use Rattle.conversion.proofs.Steps.{Remaining}
use Rattle.conversion.proofs.refresh.Given as goal

abbrev pub invariant-loop-i : goal.invariant-loop-i
invariant-loop-i l =
    let T = refresh l.q l.n (after l.start (at l.words)) (at l.initial.list) in
    (l.i ≤ l.n) × (l.start ≤ l.p) × (l.p + pairs (l.n - l.i) ≡ l.start + pairs l.n) × Remaining l.q (at l.words) l.n T l.i l.p l.list × (l.row ≡ overwrite l.initial.row 0 (table l.i T)) × (length l.row ≡ length l.initial.row)
