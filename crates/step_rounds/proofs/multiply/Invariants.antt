-- The first i products are made.
use Rattle.residue.specs.Residue.{mul}
use Rattle.buffers.specs.Positions.{at}
use Rattle.conversion.specs.Arrays.{Holds}
use Rattle.step_rounds.proofs.multiply.Given as goal

abbrev pub invariant-loop-i : goal.invariant-loop-i
invariant-loop-i l = Holds l.i (λ t. mul l.q (at l.fn.list t) l.bit) l.products
