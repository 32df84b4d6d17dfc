use Rattle.std.proofs.Common.{◌++◌, arith, get_or, take_all}
use Rattle.text.specs.Ascii.{ascii}
use Rattle.text.specs.Text.{decimal}
use Rattle.text.specs.Laws.{spaced-none, written_nothing, written_then, room_left, words-next, words-room}
use Rattle.text.proofs.Writer.words.Goals as goal

pub loop-word-init : goal.loop-word-init
loop-word-init c = rw spaced-none (written_nothing _)

pub field-requires : goal.field-requires
field-requires c =
    let word = ascii " " ++ decimal (get_or c.args.words.now c.loop-word.word-index 0) in
    let room = room_left _ word _ (words-room c.args.words.now c.loop-word.word-index c.loop-word-test.true) c.requires c.loop-word.invariant in
    rw c.to_usize.ensures (omega (arith, room, c.loop-word.invariant.wrote.1))

pub loop-word-preserved : goal.loop-word-preserved
loop-word-preserved c =
    let w = rw c.to_usize.ensures at c.field.ensures in
    rw (words-next c.args.words.now c.loop-word.word-index c.loop-word-test.true) (written_then c.loop-word.invariant w)

pub returns : goal.returns
returns c = rw (take_all c.loop-word.word-index c.args.words.now c.loop-word-test.false) at c.loop-word.invariant
