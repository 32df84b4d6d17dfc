-- Nothing, or the line.
use Rattle.std.proofs.Common.{◌≡◌, ◌∷◌, ◌^◌}
use mir.Facts.{to_z-of_z}
use borrow.Author.Rules.{sfits_of}
use Rattle.tally.specs.Tally.{line_of, sample_at}
use Rattle.text.specs.Text.{decimal, signed, line}
use Rattle.text.specs.Laws.{written_nothing}
use Rattle.report_lines.specs.Lines.{exact_fields, lines_text}
use Rattle.report_lines.specs.Laws.{line_absent, line_present}
use Rattle.report_lines.proofs.write_counted.Goals as goal
use Rattle.report_lines.proofs.write_counted.Goals.{After-sample_at}

-- the line, by what was handed on
present : (c : After-sample_at) → let a = c.args in lines_text a.mixed a.k (line_of (sample_at a.e) a.times) ≡ line (signed c.sample_at.result) (decimal a.times ∷ exact_fields a.mixed a.ways (4 ^ a.k))
present c =
    rw (c.sample_at.ensures, c.requires.2) (line_present c.args.mixed c.args.k (sample_at c.args.e) c.args.times c.if-times-ne0.true)

pub write_line-requires : goal.write_line-requires
write_line-requires c =
    (c.requires.1, rw (to_z-of_z (sfits_of c.sample_at.type_inv)) (rw (present (goal.at.write_line-requires c).After-sample_at) at c.requires.3))

pub returns-then-times-ne0 : goal.returns-then-times-ne0
returns-then-times-ne0 c = rw (present (goal.at.returns-then-times-ne0 c).After-sample_at) (rw (to_z-of_z (sfits_of c.sample_at.type_inv)) at c.write_line.ensures)

pub returns-else-times-ne0 : goal.returns-else-times-ne0
returns-else-times-ne0 c = rw (line_absent c.args.mixed c.args.k (sample_at c.args.e) c.args.times c.if-times-ne0.false) (written_nothing c.args.out.now)
