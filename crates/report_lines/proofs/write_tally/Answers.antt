-- The lines, and the last one behind them. The sum is itself when `write_last` reads it.
use Rattle.std.proofs.Common.{rules, ◌≡◌, arith, length-append}
use mir.Syntax.{w32}
use mir.Val.{to_z, of_z}
use mir.Facts.{to_z-of_z}
use Rattle.buffers.specs.Positions.{at}
use Rattle.text.specs.Laws.{written_then, room_behind}
use Rattle.report_lines.specs.Lines.{last_line, tally_text}
use Rattle.report_lines.specs.Laws.{first_lines}
use Rattle.report_lines.proofs.write_tally.Goals as goal

pub write_lines-requires : goal.write_lines-requires
unfolding tally_text
write_lines-requires c =
    let t = c.args.tally in
    (c.requires.0, c.requires.1, c.count_pairs-row.ensures, omega (arith, c.requires.2, length-append (first_lines t.mixed t.k (at t.counts) 33) (last_line t.sum t.squares t.total)))

pub write_last-requires : goal.write_last-requires
unfolding tally_text
write_last-requires c =
    let t = c.args.tally in
    let read : to_z w32 (of_z w32 t.sum) ≡ t.sum = to_z-of_z {w = w32} (search rules) in
    rw read (room_behind (first_lines t.mixed t.k (at t.counts) 33) (last_line t.sum t.squares t.total) c.requires.2 c.write_lines.ensures)

pub returns : goal.returns
unfolding tally_text
returns c =
    let z = c.args.tally.sum in
    let read : to_z w32 (of_z w32 z) ≡ z = to_z-of_z {w = w32} (search rules) in
    written_then c.write_lines.ensures (rw read at c.write_last.ensures)
