-- The first i shares have lost their words, whose sum is s.
use mathlib.Core.Path.{◌≡◌}
use Rattle.residue.specs.Residue.{sum}
use Rattle.buffers.specs.Positions.{at, after}
use Rattle.conversion.specs.Conversion.{extend}
use Rattle.conversion.specs.Arrays.{Holds}
use Rattle.step_rounds.proofs.extend.Given as goal

abbrev pub invariant-loop-i : goal.invariant-loop-i
invariant-loop-i l = Holds l.i (extend l.q l.j (at l.a) (after l.start (at l.words))) l.list × (l.sum ≡ sum l.q l.i (after l.start (at l.words)))
