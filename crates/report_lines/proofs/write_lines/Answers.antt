use Rattle.std.proofs.Common.{◌≡◌, ap, ◌∙◌, List, ℕ, ◌+◌, arith}
use Rattle.buffers.specs.Positions.{at}
use Rattle.pairs.specs.Rows.{row_beside}
use Rattle.tally.specs.Tally.{line_of, sample_at}
use Rattle.text.specs.Laws.{written_nothing, written_then, room_left}
use Rattle.report_lines.specs.Lines.{lines_text}
use Rattle.report_lines.specs.Laws.{first_lines, lines_none, lines_next, line-room}
use Rattle.report_lines.proofs.write_lines.Goals as goal

pub loop-e-init : goal.loop-e-init
loop-e-init c = (omega arith, rw lines_none (written_nothing c.args.out.now))

pub write_counted-requires : goal.write_counted-requires
write_counted-requires c =
    let a = c.args in
    let l = c.loop-e in
    let t = c.loop-e-test.true in
    let n = at a.counts.now in (
      t,
      c.requires.0,
      ap (λ (r : List ℕ). at r (1 + l.e)) c.requires.2 ∙ row_beside a.k l.e t,
      room_left (first_lines a.mixed a.k n l.e) (lines_text a.mixed a.k (line_of (sample_at l.e) (n l.e))) (first_lines a.mixed a.k n 33) (line-room a.mixed a.k n l.e t) c.requires.3 l.invariant.1,
    )

pub loop-e-preserved : goal.loop-e-preserved
loop-e-preserved c =
    let l = c.loop-e in
    (omega arith, rw (lines_next c.args.mixed c.args.k (at c.args.counts.now) l.e) (written_then l.invariant.1 c.write_counted.ensures))

pub returns : goal.returns
returns c =
    let l = c.loop-e in
    let e : l.e ≡ 33 = omega arith in
    rw e at l.invariant.1
