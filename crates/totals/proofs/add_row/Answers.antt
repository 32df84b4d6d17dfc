use mathlib.Core.Path.{◌≡◌, refl, sym, ap, ◌∙◌}
use mathlib.Core.Bool.{Bool}
use mathlib.Core.List.{List}
use Prim.Native.Nat.{ℕ, ◌-◌, ◌≤◌, ◌<◌}
use native.Mathlib.Nat.{le_refl}
use native.Mathlib.Omega.{arith}
use lib.ListN.{length-set, length-take}
use Rattle.std.proofs.Common.{get_or-take}
use Rattle.residue.proofs.Laws.{sub_cong, sub_complement}
use Rattle.buffers.specs.Positions.{at}
use Rattle.buffers.specs.PositionLaws.{front-behind}
use Rattle.buffers.specs.Rows.{values-none, values-next, values-all}
use Rattle.totals.specs.Totals.{signed_sum}
use Rattle.totals.proofs.Totals.{signed_lt}
use Rattle.totals.proofs.add_row.Goals as goal
use Rattle.totals.proofs.add_row.Goals.{After-sub, After-widen-share, In-loop-i, Joined-negative, else-negative, then-negative}

modulus : (c : In-loop-i) → c.widen-modulus.result ≡ c.args.q
modulus c = c.widen-modulus.ensures

turn : (c : In-loop-i) → c.loop-i.i < c.args.n
turn c = omega (arith, c.loop-i-test.true, length-take c.args.n c.args.row.now)

-- the total is that of the entry; it and the share are below q
operands : (c : After-widen-share) → let a = c.args in let i = c.loop-i.i in i < a.n
    → ((c.widen-total.result ≡ at a.work.now i) × (c.widen-share.result ≡ at a.row.now i)) × (c.widen-total.result < a.q) × (c.widen-share.result < a.q)
operands c l =
    let a = c.args in
    let i = c.loop-i.i in
    let t : c.widen-total.result ≡ at a.work.now i = c.widen-total.ensures ∙ ap (λ (m : List ℕ). at m i) c.loop-i.invariant.0 ∙ front-behind _ _ _ _ (le_refl _) in
    let s : c.widen-share.result ≡ at a.row.now i = c.widen-share.ensures ∙ get_or-take a.n a.row.now i 0 l in
    ((t, s), rw t (c.requires.4 i l), rw s (c.requires.2 i l))

-- what is taken off is at most q
other-le : (c : Joined-negative) → c.widen-share.result < c.args.q → c.if-negative.other ≤ c.args.q
other-le c s =
    let m = c.widen-modulus.ensures in
    elim c.if-negative.branch [ then-negative w ↦ omega (arith, w.other-is) | else-negative w ↦ omega (arith, w.other-is) ]

-- the new total
next : (c : After-sub) → let a = c.args in let i = c.loop-i.i in i < a.n → (c.widen-total.result ≡ at a.work.now i) × (c.widen-share.result ≡ at a.row.now i) → c.sub.result ≡ signed_sum a.q a.negative (at a.work.now i) (at a.row.now i)
next c l o =
    let a = c.args in
    let i = c.loop-i.i in
    let m = c.widen-modulus.ensures in
    let sign : Bool → ℕ = λ b. signed_sum a.q b (at a.work.now i) (at a.row.now i) in
    let le : at a.row.now i ≤ a.q = omega (arith, c.requires.2 i l) in
    elim c.if-negative.branch [
      | then-negative w ↦ c.sub.ensures ∙ sub_cong m o.0 (w.other-is ∙ o.1) ∙ sym (ap sign w.if-negative.true)
      | else-negative w ↦
          let e : c.if-negative.other ≡ a.q - at a.row.now i = omega (arith, w.other-is, o.1) in
          c.sub.ensures ∙ sub_cong m o.0 e ∙ sub_complement a.q _ _ le ∙ sym (ap sign w.if-negative.false)
    ]

pub loop-i-init : goal.loop-i-init
loop-i-init c = (values-none _ _, refl)

pub overflow_sub-other : goal.overflow_sub-other
overflow_sub-other c =
    let m = modulus (goal.at.overflow_sub-other c).In-loop-i in
    let o = operands (goal.at.overflow_sub-other c).After-widen-share (turn (goal.at.overflow_sub-other c).In-loop-i) in
    omega (arith, o.2)

pub sub-requires : goal.sub-requires
sub-requires c =
    let m = modulus (goal.at.sub-requires c).In-loop-i in
    let o = operands (goal.at.sub-requires c).After-widen-share (turn (goal.at.sub-requires c).In-loop-i) in
    (omega (arith, other-le c o.2), omega (arith, o.1), omega (arith, c.requires.1.small))

pub narrow-requires : goal.narrow-requires
narrow-requires c =
    let i = c.loop-i.i in
    let l = turn (goal.at.narrow-requires c).In-loop-i in
    let o = operands (goal.at.narrow-requires c).After-widen-share l in
    rw (next c l o.0) (signed_lt c.args.q (omega (arith, c.requires.1.large)) c.args.negative (at c.args.work.now i) (at c.args.row.now i))

pub loop-i-preserved : goal.loop-i-preserved
loop-i-preserved c =
    let t = c.loop-i in
    let l = turn (goal.at.loop-i-preserved c).In-loop-i in
    let o = operands (goal.at.loop-i-preserved c).After-widen-share l in
    (values-next _ _ _ _ _ t.invariant.0 (c.narrow.ensures ∙ next (goal.at.loop-i-preserved c).After-sub l o.0) (omega (arith, c.requires.3)), length-set t.work t.i _ ∙ t.invariant.1)

pub returns : goal.returns
returns c =
    let a = c.args in
    values-all _ _ _ _ _ (omega (arith, c.loop-i-test.false, c.loop-i.auto.i-end, length-take a.n a.row.now, c.requires.0)) c.loop-i.invariant.0
