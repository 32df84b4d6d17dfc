-- The rows of the bits below `bit` are in the totals.
use mathlib.Core.Path.{◌≡◌}
use Prim.Native.Nat.{◌+◌, ◌*◌, ◌≤◌}
use lib.ListN.{length}
use Rattle.buffers.specs.Overwrite.{overwrite}
use Rattle.buffers.specs.Positions.{at, table, after}
use Rattle.conversion.specs.Conversion.{bit_words}
use Rattle.totals.specs.Totals.{totals_of}
use Rattle.totals.proofs.add_string.Given as goal

abbrev pub invariant-loop-bit : goal.invariant-loop-bit
invariant-loop-bit l =
    (l.bit ≤ l.k) × (l.p ≡ l.start + l.bit * bit_words l.n) × (length l.row ≡ 8) × (l.work ≡ overwrite l.initial.work 0 (table l.n (totals_of l.n l.q l.negative (at l.shares) (after l.start (at l.words)) l.initial.work l.bit)))
