-- The sum of the words before this one.
use mathlib.Core.Path.{◌≡◌}
use Rattle.residue.specs.Residue.{sum}
use Rattle.buffers.specs.Positions.{at}
use Rattle.masking.proofs.sum_all.Given as goal

abbrev pub invariant-loop-word : goal.invariant-loop-word
invariant-loop-word l = l.sum ≡ sum l.q l.word-index (at l.list)
