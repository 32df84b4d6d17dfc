-- The header, and behind it what the file gives.
use Rattle.std.proofs.Common.{arith, length-append}
use borrow.Author.Rules.{rules}
use Rattle.text.specs.Laws.{written_then, room_behind}
use Rattle.lesson_samples.specs.Lesson.{lesson}
use Rattle.lesson.specs.Text.{header, lesson_lines, text_of}
use Rattle.lesson.proofs.write_lesson.Goals as goal

pub bytes-requires : goal.bytes-requires
unfolding text_of
bytes-requires c = omega (arith, c.requires.1, length-append header (lesson_lines (lesson c.args.file.now)))

pub write_samples-requires : goal.write_samples-requires
unfolding text_of
write_samples-requires c = (search rules, room_behind header (lesson_lines (lesson c.args.file.now)) c.requires.1 c.bytes.ensures)

pub returns : goal.returns
unfolding text_of
returns c = let e = c.write_samples.ensures in (e.0, e.1, written_then c.bytes.ensures e.2)
