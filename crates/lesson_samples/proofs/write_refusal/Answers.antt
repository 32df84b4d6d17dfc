-- Four pieces, one behind the other.
use Rattle.std.proofs.Common.{ℕ, ◌++◌}
use Rattle.text.specs.Ascii.{ascii}
use Rattle.text.specs.Text.{decimal}
use Rattle.lesson_samples.specs.RefusalLine.{refusal_line}
use Rattle.lesson_samples.specs.RefusalLaws.{refusal_line_lem}
use Rattle.text.proofs.Pieces.{Pieces, first, second, third, fourth, all}
use Rattle.lesson_samples.proofs.write_refusal.Goals as goal

pieces : (code position : ℕ) → Pieces (refusal_line code position) (ascii "refused") (ascii " " ++ decimal code) (ascii " " ++ decimal position) (ascii "\n")
pieces code position = record { split = refusal_line_lem code position }

pub bytes-requires : goal.bytes-requires
bytes-requires c = first c.args.text.now (pieces c.args.refusal.code c.args.refusal.position) c.requires

pub field-requires : goal.field-requires
field-requires c = second c.args.text.now (pieces c.args.refusal.code c.args.refusal.position) c.bytes.ensures c.requires

pub field-requires-2 : goal.field-requires-2
field-requires-2 c = third c.args.text.now (pieces c.args.refusal.code c.args.refusal.position) c.bytes.ensures c.field.ensures c.requires

pub bytes-requires-2 : goal.bytes-requires-2
bytes-requires-2 c = fourth c.args.text.now (pieces c.args.refusal.code c.args.refusal.position) c.bytes.ensures c.field.ensures c.field-2.ensures c.requires

pub returns : goal.returns
returns c = all c.args.text.now (pieces c.args.refusal.code c.args.refusal.position) c.bytes.ensures c.field.ensures c.field-2.ensures c.bytes-2.ensures
