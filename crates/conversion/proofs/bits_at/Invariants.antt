-- After i turns the bits of the first i shares stand in front. Each is a shift and a mask.
use Rattle.buffers.specs.Positions.{at}
use Rattle.conversion.specs.Conversion.{bits_at}
use Rattle.conversion.specs.Arrays.{Holds}
use Rattle.conversion.proofs.bits_at.Given as goal

abbrev pub invariant-loop-i : goal.invariant-loop-i
invariant-loop-i l = Holds l.i (bits_at (at l.shares) l.t) l.bits
