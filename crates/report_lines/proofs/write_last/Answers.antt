-- Four pieces, one behind the other. The sum is itself when `signed` reads it.
use Rattle.std.proofs.Common.{ℕ, ℤ, ◌++◌}
use Rattle.text.specs.Ascii.{ascii}
use Rattle.text.specs.Text.{decimal, signed}
use Rattle.report_lines.specs.Lines.{last_line}
use mir.Facts.{to_z-of_z}
use Rattle.report_lines.specs.Laws.{last_pieces}
use Rattle.text.proofs.Pieces.{Pieces, first, second, third, fourth, all}
use Rattle.report_lines.proofs.write_last.Goals as goal

pieces : (sum : ℤ) (squares total : ℕ) → Pieces (last_line sum squares total) (signed sum) (ascii " " ++ decimal squares) (ascii " " ++ decimal total) (ascii "\n")
pieces sum squares total = record { split = last_pieces sum squares total }

pub signed-requires : goal.signed-requires
signed-requires c = rw (to_z-of_z c.ranges.sum) (first c.args.out.now (pieces c.args.sum c.args.squares c.args.total) c.requires)

pub field-requires : goal.field-requires
field-requires c = second c.args.out.now (pieces c.args.sum c.args.squares c.args.total) (rw (to_z-of_z c.ranges.sum) at c.signed.ensures) c.requires

pub field-requires-2 : goal.field-requires-2
field-requires-2 c = third c.args.out.now (pieces c.args.sum c.args.squares c.args.total) (rw (to_z-of_z c.ranges.sum) at c.signed.ensures) c.field.ensures c.requires

pub bytes-requires : goal.bytes-requires
bytes-requires c = fourth c.args.out.now (pieces c.args.sum c.args.squares c.args.total) (rw (to_z-of_z c.ranges.sum) at c.signed.ensures) c.field.ensures c.field-2.ensures c.requires

pub returns : goal.returns
returns c = all c.args.out.now (pieces c.args.sum c.args.squares c.args.total) (rw (to_z-of_z c.ranges.sum) at c.signed.ensures) c.field.ensures c.field-2.ensures c.bytes.ensures
