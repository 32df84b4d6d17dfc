-- The checks' verdict; a refusal comes before anything is written, and behind the checks there is room for the text.
use mathlib.Core.Path.{◌≡◌, ap, ◌∙◌}
use native.Mathlib.Omega.{arith}
use lib.ListN.{length}
use Rattle.std.proofs.Common.{rules}
use Rattle.checks.specs.Checks.{checked}
use Rattle.checks.specs.Answers.{reading}
use Rattle.lesson_samples.specs.Call.{call_checks}
use Rattle.lesson_samples.specs.CallLaws.{call-room, call-refused, call-done, held_by}
use Rattle.text.proofs.Pieces.{left_behind}
use Rattle.lesson.specs.Text.{lesson_text, text_room}
use Rattle.lesson.specs.Room.{text-length}
use Rattle.lesson.proofs.write_text.Goals as goal
use Rattle.lesson.proofs.write_text.Goals.{After-check_buffers}

-- the checks were made with the room of the file's text
checks : (d : After-check_buffers) → let a = d.args in reading d.check_buffers.result ≡ checked (call_checks (text_room (length a.file.now)) (length a.words.now) (length a.out.now) (length a.work.now) (length a.text.now))
checks d = let a = d.args in d.check_buffers.ensures ∙ ap (λ m. checked (call_checks m (length a.words.now) (length a.out.now) (length a.work.now) (length a.text.now))) d.text_room-room.ensures

pub returns-in_err-check_buffers : goal.returns-in_err-check_buffers
returns-in_err-check_buffers c =
    call-refused _ (lesson_text c.args.file.now) _ _ _ _ _ _ (checks (goal.at.returns-in_err-check_buffers c).After-check_buffers) _ c.in_err-check_buffers.was c.from_residual.ensures.1

pub write_lesson-requires : goal.write_lesson-requires
write_lesson-requires c =
    let r = call-room (text_room (length c.args.file.now)) (length c.args.words.now) (length c.args.out.now) (length c.args.work.now) (length c.args.text.now) _ (checks (goal.at.write_lesson-requires c).After-check_buffers) c.in_ok-check_buffers.was in
    (r.0, omega (arith, text-length c.args.file.now (λ i. (c.type_inv.file i).fits), r.1))

pub returns : goal.returns
returns c =
    let e = c.write_lesson.ensures in
    call-done _ _ _ _ _ _ _ _ (checks (goal.at.returns c).After-check_buffers) c.in_ok-check_buffers.was _ _ _ (held_by c.write_lesson.new.buffers (search rules) (search rules) (search rules) ∙ e.0) (left_behind e.2 (search rules))
