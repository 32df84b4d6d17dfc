-- The first i shares are B - 2Bb; at the end b is added to the first.
use Rattle.buffers.specs.Positions.{at}
use Rattle.conversion.specs.Conversion.{less_twice}
use Rattle.conversion.specs.Arrays.{Holds}
use Rattle.step_rounds.proofs.xor_bit.Given as goal

abbrev pub invariant-loop-i : goal.invariant-loop-i
invariant-loop-i l = Holds l.i (λ t. less_twice l.q l.bit (at l.fn.list t)) l.c
