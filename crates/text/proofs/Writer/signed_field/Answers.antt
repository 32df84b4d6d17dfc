-- The value is itself when `signed` reads it.
use Rattle.std.proofs.Common.{arith}
use mir.Facts.{to_z-of_z}
use Rattle.text.specs.Laws.{written_then, room_behind}
use Rattle.text.proofs.Writer.signed_field.Goals as goal

pub signed-requires : goal.signed-requires
signed-requires c = rw (to_z-of_z c.ranges.value) (omega (arith, room_behind _ _ c.requires c.space.ensures))

pub returns : goal.returns
returns c = written_then c.space.ensures (rw (to_z-of_z c.ranges.value) at c.signed.ensures)
