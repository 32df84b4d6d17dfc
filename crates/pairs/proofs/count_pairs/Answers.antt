use mathlib.Core.Path.{sym, ap, ◌∙◌}
use native.Mathlib.Numerals.{add-one}
use native.Mathlib.Omega.{arith}
use Rattle.buffers.specs.Positions.{at}
use Rattle.pairs.specs.Rows.{pair_row, next_row, row-none, row_below}
use Rattle.pairs.proofs.Rows.{row_next}
use Rattle.pairs.proofs.count_pairs.Goals as goal

pub loop-bits-init : goal.loop-bits-init
loop-bits-init c = row-none

pub next_row-row-requires : goal.next_row-row-requires
next_row-row-requires c =
    let l = c.loop-bits in
    rw l.invariant (row_below l._bits (omega arith))

pub loop-bits-preserved : goal.loop-bits-preserved
loop-bits-preserved c =
    let l = c.loop-bits in
    c.next_row-row.ensures ∙ ap (λ r. next_row (at r)) l.invariant ∙ row_next l._bits (omega arith) ∙ ap pair_row (sym (add-one l._bits))
