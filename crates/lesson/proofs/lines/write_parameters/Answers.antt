-- Four fields, one behind the other.
use Rattle.std.proofs.Common.{ℕ, ◌++◌}
use Rattle.text.specs.Ascii.{ascii}
use Rattle.text.specs.Text.{decimal, spaced}
use Rattle.text.proofs.Pieces.{Pieces, first, second, third, fourth, all}
use Rattle.lesson.specs.Text.{parameter_fields}
use Rattle.lesson.specs.TextLaws.{parameters-spaced}
use Rattle.lesson.proofs.lines.write_parameters.Goals as goal

pieces : (n k q used : ℕ) → Pieces (spaced (parameter_fields n k q used)) (ascii " " ++ decimal n) (ascii " " ++ decimal k) (ascii " " ++ decimal q) (ascii " " ++ decimal used)
pieces n k q used = record { split = parameters-spaced n k q used }

pub field-requires : goal.field-requires
field-requires c = let p = c.args.parameters in first c.args.text.now (pieces p.n p.k p.q c.args.used) c.requires

pub field-requires-2 : goal.field-requires-2
field-requires-2 c = let p = c.args.parameters in second c.args.text.now (pieces p.n p.k p.q c.args.used) c.field.ensures c.requires

pub field-requires-3 : goal.field-requires-3
field-requires-3 c = let p = c.args.parameters in rw c.to_usize.ensures (third c.args.text.now (pieces p.n p.k p.q c.args.used) c.field.ensures c.field-2.ensures c.requires)

pub field-requires-4 : goal.field-requires-4
field-requires-4 c =
    let p = c.args.parameters in
    fourth c.args.text.now (pieces p.n p.k p.q c.args.used) c.field.ensures c.field-2.ensures (rw c.to_usize.ensures at c.field-3.ensures) c.requires

pub returns : goal.returns
returns c =
    let p = c.args.parameters in
    all c.args.text.now (pieces p.n p.k p.q c.args.used) c.field.ensures c.field-2.ensures (rw c.to_usize.ensures at c.field-3.ensures) c.field-4.ensures
