use Rattle.std.proofs.Common.{arith}
use Rattle.text.specs.Laws.{written_then, room_behind}
use Rattle.text.proofs.Writer.field.Goals as goal

pub decimal-requires : goal.decimal-requires
decimal-requires c = omega (arith, room_behind _ _ c.requires c.space.ensures)

pub returns : goal.returns
returns c = written_then c.space.ensures c.decimal.ensures
