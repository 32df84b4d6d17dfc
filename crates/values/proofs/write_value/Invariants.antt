-- The bits from t on are in the output.
use mathlib.Core.Path.{◌≡◌}
use lib.ListN.{length}
use Rattle.buffers.specs.Overwrite.{overwrite}
use Rattle.buffers.specs.Positions.{at, table, after}
use Rattle.values.proofs.Steps.{upper_shares}
use Rattle.values.proofs.write_value.Given as goal

abbrev pub invariant-loop-t : goal.invariant-loop-t
invariant-loop-t l =
    (length l.row ≡ 8) × (l.out ≡ overwrite l.initial.out 0 (table l.n (upper_shares l.q l.n l.k (at l.shares) (after l.start (at l.words)) l.t)))
