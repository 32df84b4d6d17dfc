-- The library accepts, and the text stands in front: that of the bytes read, and so of the whole input.
use Rattle.std.proofs.Common.{arith}
use Rattle.lesson_samples.specs.CallLaws.{text_unwrapped}
use Rattle.lesson_samples.specs.Input.{text-of_input}
use Rattle.report.specs.Report.{text_of}
use Rattle.report_program.proofs.make_text.Goals as goal

pub returns : goal.returns
returns c =
    let text = text_unwrapped _ _ _ _ _ _ _ _ _ c.write_text.ensures record { word_room = c.requires.word_room; share-room = omega arith; total-room = omega arith } c.requires.text_room in
    let written = text-of_input text_of c.args.buffer.now c.args.count c.requires.past_limit _ _ (rw (← c.unwrap_or.ensures) at text) in
    record { of_input = written.0; in_text = written.1 }
