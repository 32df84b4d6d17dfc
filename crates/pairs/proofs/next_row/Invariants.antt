-- The loop has written the first j entries behind the first.
use mathlib.Core.Path.{◌≡◌}
use lib.ListN.{replicate}
use Rattle.buffers.specs.Laws.{written}
use Rattle.buffers.specs.Positions.{at, table}
use Rattle.pairs.specs.Rows.{next_entry}
use Rattle.pairs.proofs.next_row.Given as goal

abbrev pub invariant-loop-j : goal.invariant-loop-j
invariant-loop-j l = l.next ≡ written (replicate 35 0) 1 (table 33 (next_entry (at l.row))) l.j
