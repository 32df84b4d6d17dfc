-- The samples that the walk has made are counted.
use Prim.Native.Nat.{◌-◌}
use lib.ListN.{length}
use Rattle.lesson_samples.specs.Call.{held, SameBuffers}
use Rattle.report.proofs.Progress.{Progress}
use Rattle.report.proofs.read_samples.Given as goal

abbrev pub invariant-loop-cursor : goal.invariant-loop-cursor
invariant-loop-cursor l =
    Progress l.file (held l.initial.buffers) (held l.buffers) l.tally l.cursor.at
    × SameBuffers l.initial.buffers l.buffers

abbrev pub decreases-loop-cursor : goal.decreases-loop-cursor
decreases-loop-cursor l = length l.file - l.cursor.at
