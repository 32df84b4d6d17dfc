use mathlib.Core.Path.{◌≡◌, refl, sym, ap, ◌∙◌}
use mathlib.Core.List.{List}
use Prim.Native.Nat.{ℕ, ◌<◌}
use native.Mathlib.Omega.{arith}
use lib.ListN.{length-take}
use lib.Seq.{take_all}
use Rattle.residue.proofs.Laws.{add_cong, add_lt}
use Rattle.buffers.specs.Overwrite.{overwrite}
use Rattle.buffers.specs.Laws.{overwrite-none, front_from, taken_next, taken-all}
use Rattle.buffers.specs.Positions.{at}
use Rattle.buffers.specs.PositionLaws.{length-table, table_at}
use Rattle.values.specs.Doubling.{doubled}
use Rattle.values.proofs.Steps.{doubled_of}
use Rattle.values.proofs.double_and_add.Goals as goal
use Rattle.values.proofs.double_and_add.Goals.{After-widen-total, else-i-n, then-i-n}

-- the total is that of the entry
total : (c : After-widen-total) → c.widen-total.result ≡ at c.args.totals.now c.loop-i.i
total c =
    let a = c.args in
    let l = c.loop-i in
    let n = length-take l.i (doubled_of a.n a.q a.totals.now a.row.now) in
    c.widen-total.ensures ∙ ap (λ (m : List ℕ). at m l.i) l.invariant.2 ∙ front_from _ _ l.i (omega arith)

total-lt : (c : After-widen-total) → c.widen-total.result < c.args.q
total-lt c = omega (arith, total c, c.requires.4 _ c.if-i-n.true)

pub loop-i-init : goal.loop-i-init
loop-i-init c = (omega arith, refl, sym (overwrite-none _ 0))

pub add-twice-requires : goal.add-twice-requires
add-twice-requires c =
    let m = c.widen-modulus.ensures in
    let t = total-lt (goal.at.add-twice-requires c).After-widen-total in
    (omega (arith, t), omega (arith, t), omega (arith, c.requires.1.small))

pub add-requires : goal.add-requires
add-requires c =
    let m = c.widen-modulus.ensures in
    let w : c.add-twice.result < c.args.q = rw (c.add-twice.ensures ∙ add_cong m refl refl) (add_lt c.args.q (omega (arith, c.requires.1.large)) _ _) in
    (omega (arith, w), omega (arith, c.widen.ensures, c.requires.2 _ c.if-i-n.true), omega (arith, c.requires.1.small))

pub narrow-requires : goal.narrow-requires
narrow-requires c = let m = c.widen-modulus.ensures in rw (c.add.ensures ∙ add_cong m refl refl) (add_lt c.args.q (omega (arith, c.requires.1.large)) _ _)

pub loop-i-preserved : goal.loop-i-preserved
loop-i-preserved c =
    let l = c.loop-i in
    let a = c.args in
    let m = length-table a.n (λ t. doubled a.q (at a.totals.now t) (at a.row.now t)) in
    let g = c.widen-modulus.ensures in (
      omega arith,
      c.if-i-n.auto.totals ∙ l.invariant.1,
      elim c.if-i-n.branch [
        | then-i-n w ↦
            let h = w.if-i-n.true in
            let k = length-take l.i (doubled_of a.n a.q a.totals.now a.row.now) in
            let t : w.widen-total.result ≡ at a.totals.now l.i = w.widen-total.ensures ∙ ap (λ (m : List ℕ). at m l.i) l.invariant.2 ∙ front_from _ _ l.i (omega arith) in
            let n : w.narrow.result ≡ doubled a.q (at a.totals.now l.i) (at a.row.now l.i) = w.narrow.ensures ∙ w.add.ensures ∙ add_cong g (w.add-twice.ensures ∙ add_cong g t t) w.widen.ensures in
            w.totals-is ∙ taken_next a.totals.now (doubled_of a.n a.q a.totals.now a.row.now) l.i l.totals _ l.invariant.2 (n ∙ sym (table_at a.n _ l.i h)) (omega (arith, h)) (omega (arith, h, c.requires.3))
        | else-i-n w ↦ w.totals-is ∙ l.invariant.2 ∙ taken-all a.totals.now (doubled_of a.n a.q a.totals.now a.row.now) l.i (omega (arith, w.if-i-n.false))
      ],
    )

pub returns : goal.returns
returns c =
    let a = c.args in
    let m = length-table a.n (λ t. doubled a.q (at a.totals.now t) (at a.row.now t)) in
    c.loop-i.invariant.2 ∙ ap (overwrite a.totals.now 0) (take_all c.loop-i.i (doubled_of a.n a.q a.totals.now a.row.now) (omega (arith, c.requires.0)))
