-- The library accepts, and the text stands in front: that of the bytes read, and so of the whole input.
use Rattle.std.proofs.Common.{◌≤◌, ◌∙◌, ℕ, ap, arith, length, take}
use Rattle.std.proofs.lemmas.List.{length-replicate}
use Rattle.lesson.specs.Room.{room_le}
use Rattle.lesson.specs.Text.{text_of}
use Rattle.lesson_program.proofs.make_text.Goals as goal
use Rattle.lesson_samples.specs.CallLaws.{text_unwrapped}
use Rattle.lesson_samples.specs.Input.{text-of_input}

pub returns : goal.returns
returns c =
    let words : 1792 ≤ length c.args.words.now = omega (arith, ap length c.requires.zeros ∙ length-replicate {A = ℕ} 1792 0) in
    let room = room_le (length (take c.args.count c.args.buffer.now)) in
    let text = text_unwrapped _ _ _ _ _ _ _ _ _ c.write_text.ensures record { word_room = words; share-room = omega arith; total-room = omega arith } (omega (arith, c.requires.text_room, room)) in
    let written = text-of_input text_of c.args.buffer.now c.args.count c.requires.past_limit _ _ (rw (← c.unwrap_or.ensures) at text) in
    record { of_input = written.0; in_text = written.1 }
