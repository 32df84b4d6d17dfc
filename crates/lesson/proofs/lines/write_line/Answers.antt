-- The number, the parameters and the value, and behind them the shares and the end of the line. The value is itself when `signed_field` reads it.
use Rattle.std.proofs.Common.{ℕ, List, map, ◌++◌, arith, length-append}
use Rattle.residue.proofs.Signed.{read_back}
use Rattle.text.specs.Ascii.{ascii}
use Rattle.text.specs.Text.{decimal, signed, spaced, HasRoom, Written}
use Rattle.text.specs.Laws.{written_then, room_behind}
use Rattle.text.proofs.Pieces.{Pieces, first, second, third, fourth, all}
use Rattle.lesson_samples.specs.declared.Sampled.{Sampled}
use Rattle.lesson.specs.Text.{parameter_fields, fields_line}
use Rattle.lesson.specs.TextLaws.{fields_line_lem}
use Rattle.lesson.proofs.lines.write_line.Goals as goal
use Rattle.lesson.proofs.lines.write_line.Goals.{After-signed_field}

-- the shares and the end of the line
abbrev last : List ℕ → List ℕ
last shares = spaced (map decimal shares) ++ ascii "\n"

pieces :
    (number : ℕ)
    (s : Sampled)
    (shares : List ℕ)
    → Pieces (fields_line number s.parameters.n s.parameters.k s.parameters.q s.used s.value shares)
    (decimal number)
    (spaced (parameter_fields s.parameters.n s.parameters.k s.parameters.q s.used))
    (ascii " " ++ signed s.value)
    (last shares)
pieces number s shares = record { split = fields_line_lem number s.parameters.n s.parameters.k s.parameters.q s.used s.value shares }

valued : (c : After-signed_field) → Written c.write_parameters.new.text (ascii " " ++ signed c.args.sampled.value) c.signed_field.new.self
valued c = rw (read_back c.args.sampled.value (omega arith)) at c.signed_field.ensures

last-room : (c : After-signed_field) → HasRoom c.signed_field.new.self (last c.args.shares.now)
last-room c =
    fourth c.args.text.now (pieces c.args.number c.args.sampled c.args.shares.now) c.decimal.ensures c.write_parameters.ensures (rw (read_back c.args.sampled.value (omega arith)) at c.signed_field.ensures) c.requires

pub decimal-requires : goal.decimal-requires
decimal-requires c = first c.args.text.now (pieces c.args.number c.args.sampled c.args.shares.now) c.requires

pub write_parameters-requires : goal.write_parameters-requires
write_parameters-requires c = second c.args.text.now (pieces c.args.number c.args.sampled c.args.shares.now) c.decimal.ensures c.requires

pub signed_field-requires : goal.signed_field-requires
signed_field-requires c =
    rw (read_back c.args.sampled.value (omega arith))
    (third c.args.text.now (pieces c.args.number c.args.sampled c.args.shares.now) c.decimal.ensures c.write_parameters.ensures c.requires)

pub words-requires : goal.words-requires
words-requires c = omega (arith, last-room (goal.at.words-requires c).After-signed_field, length-append (spaced (map decimal c.args.shares.now)) (ascii "\n"))

pub bytes-requires : goal.bytes-requires
bytes-requires c = room_behind (spaced (map decimal c.args.shares.now)) (ascii "\n") (last-room (goal.at.bytes-requires c).After-signed_field) c.words.ensures

pub returns : goal.returns
returns c =
    all c.args.text.now (pieces c.args.number c.args.sampled c.args.shares.now) c.decimal.ensures c.write_parameters.ensures (valued (goal.at.returns c).After-signed_field)
    (written_then c.words.ensures c.bytes.ensures)
