-- Nothing, or two fields, one behind the other.
use Rattle.std.proofs.Common.{◌++◌, ◌^◌, arith, length-append}
use Rattle.text.specs.Ascii.{ascii}
use Rattle.text.specs.Text.{decimal, HasRoom}
use Rattle.text.specs.Laws.{spaced-none, room_behind, written_nothing, written_then}
use Rattle.report_lines.specs.Laws.{exact_pieces}
use Rattle.report_lines.proofs.write_exact.Goals as goal
use Rattle.report_lines.proofs.write_exact.Goals.{Then-not-mixed}

-- what is required, by the pieces
room : (c : Then-not-mixed) → HasRoom c.args.out.now ((ascii " " ++ decimal c.args.ways) ++ (ascii " " ++ decimal (4 ^ c.args.k)))
room c = rw (c.if-not-mixed.true, exact_pieces) at c.requires.1

pub field-requires : goal.field-requires
field-requires c = omega (arith, room (goal.at.field-requires c).Then-not-mixed, length-append (ascii " " ++ decimal c.args.ways) (ascii " " ++ decimal (4 ^ c.args.k)))

pub field-requires-then-not-mixed : goal.field-requires-then-not-mixed
field-requires-then-not-mixed c =
    rw c.power_of_four.ensures
    (room_behind (ascii " " ++ decimal c.args.ways) (ascii " " ++ decimal (4 ^ c.args.k)) (room (goal.at.field-requires-then-not-mixed c).Then-not-mixed) c.field.ensures)

pub returns-then-not-mixed : goal.returns-then-not-mixed
returns-then-not-mixed c =
    let w = rw c.power_of_four.ensures at c.field-then-not-mixed.ensures in
    rw (c.if-not-mixed.true, exact_pieces) (written_then c.field.ensures w)

pub returns-else-not-mixed : goal.returns-else-not-mixed
returns-else-not-mixed c = rw (c.if-not-mixed.false, spaced-none) (written_nothing c.args.out.now)
