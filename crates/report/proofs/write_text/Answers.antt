-- The checks' verdict; a refusal comes before anything is written, and behind the checks there is room for the report.
use Rattle.std.proofs.Common.{rules, arith, ◌∙◌}
use Rattle.lesson_samples.specs.CallLaws.{call-room, call-refused, call-done, held_by}
use Rattle.text.proofs.Pieces.{left_behind}
use Rattle.report.specs.Report.{report_text}
use Rattle.report.specs.Room.{report_length}
use Rattle.report.proofs.write_text.Goals as goal

pub returns-in_err-check_buffers : goal.returns-in_err-check_buffers
returns-in_err-check_buffers c = call-refused _ (report_text c.args.file.now) _ _ _ _ _ _ c.check_buffers.ensures _ c.in_err-check_buffers.was c.from_residual.ensures.1

pub write_report-requires : goal.write_report-requires
write_report-requires c =
    let r = call-room _ _ _ _ _ _ c.check_buffers.ensures c.in_ok-check_buffers.was in
    (r.0, omega (arith, report_length c.args.file.now (λ i. (c.type_inv.file i).fits), r.1))

pub returns : goal.returns
returns c =
    let e = c.write_report.ensures in
    call-done _ _ _ _ _ _ _ _ c.check_buffers.ensures c.in_ok-check_buffers.was _ _ _ (held_by c.write_report.new.buffers (search rules) (search rules) (search rules) ∙ e.0) (left_behind e.2 (search rules))
