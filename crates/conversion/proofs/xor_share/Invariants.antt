-- The loop's turns up to j write the shares, those behind j nothing; then the bit is added to the first share.
use Prim.Native.Nat.{◌≤◌}
use Rattle.buffers.specs.Positions.{at, after}
use Rattle.conversion.proofs.Steps.{Turned}
use Rattle.conversion.proofs.xor_share.Given as goal

abbrev pub invariant-loop-i : goal.invariant-loop-i
invariant-loop-i l = (l.i ≤ 8) × Turned l.q l.j l.bit (at l.a) (after l.start (at l.words)) l.i l.c l.sum
