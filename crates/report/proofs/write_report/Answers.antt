-- The samples are counted, and their text is written.
use Rattle.std.proofs.Common.{◌≡◌, ap₂, ◌∙◌}
use Rattle.checks.specs.Answers.{reading}
use Rattle.lesson_samples.specs.Lesson.{lesson}
use Rattle.report.specs.Report.{report_text}
use Rattle.report.specs.Counted.{reading_text, reading_text_lem}
use Rattle.report.specs.Room.{fit-bits, samples-fit, tallied-room}
use Rattle.report.proofs.write_report.Goals as goal
use Rattle.report.proofs.write_report.Goals.{After-read_samples-counted}

-- what was read gives the report
read-text : (c : After-read_samples-counted) → reading_text c.read_samples-counted.result.tally (reading c.read_samples-counted.result.ended) ≡ report_text c.args.file.now
read-text c = ap₂ reading_text c.read_samples-counted.ensures.2 c.read_samples-counted.ensures.3 ∙ reading_text_lem (lesson c.args.file.now)

pub write_reading-requires : goal.write_reading-requires
write_reading-requires c =
    let file = c.args.file.now in
    let samples = (lesson file).samples in
    let f = samples-fit file in
    let e = c.read_samples-counted.ensures.2 in
    (rw e (fit-bits samples f.0), rw e (tallied-room samples f.0 f.1).counted, rw (read-text (goal.at.write_reading-requires c).After-read_samples-counted) c.requires.1)

pub returns : goal.returns
returns c = (c.read_samples-counted.ensures.0, c.read_samples-counted.ensures.1, rw (← read-text (goal.at.returns c).After-read_samples-counted) c.write_reading.ensures)
