-- The loop has made the row of strings of as many bits as it has steps.
use mathlib.Core.Path.{◌≡◌}
use Rattle.pairs.specs.Rows.{pair_row}
use Rattle.pairs.proofs.count_pairs.Given as goal

abbrev pub invariant-loop-bits : goal.invariant-loop-bits
invariant-loop-bits l = l.row ≡ pair_row l._bits
