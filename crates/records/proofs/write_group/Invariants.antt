-- The first i values have their records.
use Rattle.buffers.specs.Positions.{at}
use Rattle.records.specs.Records.{per_share, RecordedBy}
use Rattle.records.proofs.write_group.Given as goal

abbrev pub invariant-loop-i : goal.invariant-loop-i
invariant-loop-i l = RecordedBy l.initial.out (per_share l.i l.bit l.round l.kind (at l.values)) l.out
