use mathlib.Core.Path.{◌≡◌, refl, sym, ◌∙◌}
use Prim.Native.Nat.{◌+◌, ◌-◌, ◌<◌}
use native.Mathlib.Omega.{arith}
use lib.ListN.{length-take, length-drop, drop}
use Rattle.residue.specs.Residue.{sub}
use Rattle.residue.proofs.Laws.{sub_cong, add_cong, add_lt}
use Rattle.residue.proofs.Sum.{running_none, running_next, sum_lt}
use Rattle.buffers.specs.Positions.{at, after}
use Rattle.conversion.specs.Conversion.{extend}
use Rattle.conversion.proofs.Laws.{extend-below, extend_from}
use Rattle.conversion.specs.Arrays.{holds-next, taken_at}
use Rattle.step_rounds.proofs.extend.Goals as goal
use Rattle.step_rounds.proofs.extend.Goals.{After-sub, After-widen, At-loop-i, In-loop-i}

modulus : (c : In-loop-i) → c.widen-modulus.result ≡ c.args.q
modulus c = c.widen-modulus.ensures

turn : (c : In-loop-i) → c.loop-i.i < c.args.j
turn c =
    let a = c.args in
    omega (arith, c.loop-i-test.true, length-take (a.start + a.j - a.start) (drop a.start a.words.now))

-- the share and the word of a turn, which are below q
operands : (c : After-widen) → let a = c.args in let i = c.loop-i.i in i < a.j → (c.widen-r.result ≡ after a.start (at a.words.now) i) × (c.widen-r.result < a.q) × (c.widen.result < a.q)
operands c l =
    let a = c.args in
    let i = c.loop-i.i in
    let e = c.widen-r.ensures ∙ taken_at a.q a.start (a.start + a.j - a.start) a.words.now i (omega arith) in
    (e, rw e (c.requires.3.below i l), rw c.widen.ensures (c.requires.2 i l))

difference : (c : After-sub) → let a = c.args in let i = c.loop-i.i in c.widen-r.result ≡ after a.start (at a.words.now) i → c.sub.result ≡ sub a.q (at a.a i) ((after a.start (at a.words.now)) i)
difference c e = c.sub.ensures ∙ sub_cong (c.widen-modulus.ensures) c.widen.ensures e

summed-lt : (c : At-loop-i) → c.loop-i.sum < c.args.q
summed-lt c = rw c.loop-i.invariant.1 (sum_lt c.args.q ((omega (arith, c.requires.1.large))) c.loop-i.i ((after c.args.start (at c.args.words.now))))

pub loop-i-init : goal.loop-i-init
loop-i-init c = (record { eight = refl; same = λ t l. absurd (omega arith) }, running_none _ _)

pub sub-requires : goal.sub-requires
sub-requires c =
    let o = operands c (turn (goal.at.sub-requires c).In-loop-i) in
    let m = modulus (goal.at.sub-requires c).In-loop-i in
    (omega (arith, o.1), omega (arith, o.2), omega (arith, c.requires.1.small))

pub narrow-requires : goal.narrow-requires
narrow-requires c = rw (c.sub.ensures, modulus (goal.at.narrow-requires c).In-loop-i) (add_lt c.args.q ((omega (arith, c.requires.1.large))) _ _)

pub add-sum-requires : goal.add-sum-requires
add-sum-requires c =
    let o = operands (goal.at.add-sum-requires c).After-widen (turn (goal.at.add-sum-requires c).In-loop-i) in
    let m = modulus (goal.at.add-sum-requires c).In-loop-i in
    (omega (arith, summed-lt (goal.at.add-sum-requires c).At-loop-i), omega (arith, o.1), omega (arith, c.requires.1.small))

pub loop-i-preserved : goal.loop-i-preserved
loop-i-preserved c =
    let l = c.loop-i in
    let a = c.args in
    let w = after a.start (at a.words.now) in
    let t = turn (goal.at.loop-i-preserved c).In-loop-i in
    let e = (operands (goal.at.loop-i-preserved c).After-widen t).0 in (
      holds-next _ _ _ _ (omega (arith, c.requires.0)) (c.narrow.ensures ∙ difference (goal.at.loop-i-preserved c).After-sub e ∙ sym (extend-below a.q a.j (at a.a) w l.i t)) l.invariant.0,
      running_next a.q w l.i _ _ l.invariant.1 (c.add-sum.ensures ∙ add_cong (modulus (goal.at.loop-i-preserved c).In-loop-i) refl e),
    )

pub narrow-requires-2 : goal.narrow-requires-2
narrow-requires-2 c = summed-lt (goal.at.narrow-requires-2 c).At-loop-i

pub returns : goal.returns
returns c =
    let l = c.loop-i in
    let a = c.args in
    let w = after a.start (at a.words.now) in
    let d = length-drop a.start a.words.now in
    let e : l.i ≡ a.j = omega (arith, c.loop-i-test.false, l.auto.i-end, length-take (a.start + a.j - a.start) (drop a.start a.words.now), c.requires.3.room) in
    rw e at (holds-next l.i c.narrow-2.result (extend a.q a.j (at a.a) w) l.list (omega (arith, c.requires.0)) (c.narrow-2.ensures ∙ l.invariant.1 ∙ rw e (sym (extend_from a.q a.j (at a.a) w a.j (omega arith)))) l.invariant.0)
