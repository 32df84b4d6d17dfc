-- Every sum over no samples is 0.
use mathlib.Core.Path.{refl}
use Rattle.residue.specs.Residue.{total}
use Rattle.buffers.specs.Positions.{table}
use Rattle.tally.specs.Tally.{occurrences, sumℤ}
use Rattle.tally.proofs.Tally.empty.Goals as goal

pub returns : goal.returns
unfolding occurrences sumℤ total table
returns c = refl
