-- Four pieces, one behind the other. The sample is itself when `signed` reads it.
use Rattle.std.proofs.Common.{◌++◌, ◌∷◌, List, ℕ, ◌^◌}
use mir.Facts.{to_z-of_z}
use Rattle.text.specs.Ascii.{ascii}
use Rattle.text.specs.Text.{decimal, signed, spaced, line}
use Rattle.text.specs.Laws.{line_pieces}
use Rattle.report_lines.specs.Lines.{exact_fields}
use Rattle.text.proofs.Pieces.{Pieces, second, third, fourth, all}
use Rattle.report_lines.proofs.write_line.Goals as goal

pieces : (f g : List ℕ) (gs : List (List ℕ)) → Pieces (line f (g ∷ gs)) f (ascii " " ++ g) (spaced gs) (ascii "\n")
pieces f g gs = record { split = line_pieces f g gs }

pub field-requires : goal.field-requires
field-requires c =
    let a = c.args in
    second a.out.now (pieces (signed a.sample) (decimal a.times) (exact_fields a.mixed a.ways (4 ^ a.k))) (rw (to_z-of_z c.ranges.sample) at c.signed.ensures) c.requires.1

pub write_exact-requires : goal.write_exact-requires
write_exact-requires c =
    let a = c.args in
    (c.requires.0, third a.out.now (pieces (signed a.sample) (decimal a.times) (exact_fields a.mixed a.ways (4 ^ a.k))) (rw (to_z-of_z c.ranges.sample) at c.signed.ensures) c.field.ensures c.requires.1)

pub bytes-requires : goal.bytes-requires
bytes-requires c =
    let a = c.args in
    fourth a.out.now (pieces (signed a.sample) (decimal a.times) (exact_fields a.mixed a.ways (4 ^ a.k))) (rw (to_z-of_z c.ranges.sample) at c.signed.ensures) c.field.ensures c.write_exact.ensures c.requires.1

pub returns : goal.returns
returns c =
    let a = c.args in
    all a.out.now (pieces (signed a.sample) (decimal a.times) (exact_fields a.mixed a.ways (4 ^ a.k))) (rw (to_z-of_z c.ranges.sample) at c.signed.ensures) c.field.ensures c.write_exact.ensures c.bytes.ensures
