-- Pair after pair: the share gains its words in a local and is written last, and those behind it lose theirs in the array.
use Prim.Native.Nat.{◌+◌}
use Rattle.buffers.specs.Positions.{at}
use Rattle.conversion.proofs.Steps.{Paired}
use Rattle.conversion.proofs.refresh_share.Given as goal

abbrev pub invariant-loop-t : goal.invariant-loop-t
invariant-loop-t l = Paired l.q (at l.words) l.i l.start l.initial.list (l.i + 1 + l.t) (l.start + l.t) l.list l.own
