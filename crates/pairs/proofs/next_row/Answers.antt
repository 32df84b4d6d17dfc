use mathlib.Core.Path.{◌≡◌, ◌∙◌}
use mathlib.Core.List.{List, [], ◌∷◌, ◌++◌}
use Prim.Native.Nat.{ℕ}
use native.Mathlib.Omega.{arith}
use lib.ListN.{length, replicate, length-replicate}
use Rattle.buffers.specs.Overwrite.{overwrite}
use Rattle.buffers.specs.Laws.{written_none, written_next, written_all}
use Rattle.buffers.specs.Positions.{at, table}
use Rattle.buffers.specs.PositionLaws.{length-table, table_at}
use Rattle.pairs.specs.Rows.{next_entry}
use Rattle.pairs.proofs.next_row.Goals as goal

abbrev inner : List ℕ → List ℕ
inner row = table 33 (next_entry (at row))

between : (s : List ℕ) → length s ≡ 33 → overwrite (replicate 35 0) 1 s ≡ 0 ∷ (s ++ (0 ∷ []))
unfolding overwrite
between s e = rw e

pub loop-j-init : goal.loop-j-init
loop-j-init c = written_none _ _ _

pub loop-j-preserved : goal.loop-j-preserved
loop-j-preserved c =
    let l = c.loop-j in
    let r = c.args.row in
    let m = length-table 33 (next_entry (at r)) in
    written_next (replicate 35 0) 1 (inner r) l.next l.j _ l.invariant (table_at 33 (next_entry (at r)) l.j c.loop-j-test.true) (omega (arith, length-replicate {A = ℕ} 35 0)) (omega arith)

pub returns : goal.returns
returns c =
    let l = c.loop-j in
    let r = c.args.row in
    let m = length-table 33 (next_entry (at r)) in
    l.invariant ∙ written_all (replicate 35 0) 1 (inner r) l.j (omega arith) ∙ between (inner r) m
