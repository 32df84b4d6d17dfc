-- The lines of the samples before position e are written.
use Prim.Native.Nat.{◌≤◌}
use Rattle.buffers.specs.Positions.{at}
use Rattle.text.specs.Text.{Written}
use Rattle.report_lines.specs.Laws.{first_lines}
use Rattle.report_lines.proofs.write_lines.Given as goal

abbrev pub invariant-loop-e : goal.invariant-loop-e
invariant-loop-e l = (l.e ≤ 33) × Written l.initial.out (first_lines l.mixed l.k (at l.counts) l.e) l.out
