-- The widened sum is below q, so it is narrowed to itself.
use Rattle.std.proofs.Common.{arith}
use Rattle.residue.proofs.Laws.{add_lt}
use Rattle.residue.proofs.add_words.Goals as goal

pub narrow-requires : goal.narrow-requires
narrow-requires c = rw (c.add.ensures, c.widen-3.ensures, c.widen-2.ensures, c.widen.ensures) (add_lt c.args.q (omega arith) c.args.a c.args.b)
