-- The lines of the samples that the walk has made are written; at its end the file's ending is.
use Prim.Native.Nat.{◌-◌}
use lib.ListN.{length}
use Rattle.lesson_samples.specs.Call.{held, SameBuffers}
use Rattle.lesson.proofs.Progress.{Progress}
use Rattle.lesson.proofs.write_samples.Given as goal

abbrev pub invariant-loop-cursor : goal.invariant-loop-cursor
invariant-loop-cursor l =
    Progress l.file (held l.initial.buffers) l.initial.text (held l.buffers) l.text l.cursor.at l.number
    × SameBuffers l.initial.buffers l.buffers

abbrev pub decreases-loop-cursor : goal.decreases-loop-cursor
decreases-loop-cursor l = length l.file - l.cursor.at
