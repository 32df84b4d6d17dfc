use mathlib.Core.Path.{◌≡◌, refl, ◌∙◌}
use Prim.Native.Nat.{◌+◌, ◌-◌, ◌<◌}
use native.Mathlib.Omega.{arith}
use lib.ListN.{length-set, length-take, length-drop, drop}
use Rattle.residue.proofs.Laws.{add_cong, sub_cong, add_lt}
use Rattle.buffers.specs.Positions.{at}
use Rattle.conversion.specs.Arrays.{taken_at}
use Rattle.conversion.proofs.Steps.{paired_none, paired-next, other_lt, paired_lt, paired-all}
use Rattle.conversion.proofs.refresh_share.Goals as goal
use Rattle.conversion.proofs.refresh_share.Goals.{After-widen-r, At-loop-t, In-loop-t}

modulus : (c : At-loop-t) → c.widen-modulus.result ≡ c.args.q
modulus c = c.widen-modulus.ensures

-- a turn has a share behind share i
turn : (c : In-loop-t) → c.loop-t.t < c.args.n - (c.args.i + 1)
turn c =
    let a = c.args in
    let d = length-drop a.start a.words.now in
    omega (arith, c.loop-t-test.true, length-take (a.start + (a.n - (a.i + 1)) - a.start) (drop a.start a.words.now), c.requires.5.room)

-- and its word
word : (c : After-widen-r) → c.loop-t.t < c.args.n - (c.args.i + 1) → (c.widen-r.result ≡ at c.args.words.now (c.args.start + c.loop-t.t)) × (c.widen-r.result < c.args.q)
word c l =
    let a = c.args in
    let e = c.widen-r.ensures ∙ taken_at a.q a.start (a.start + (a.n - (a.i + 1)) - a.start) a.words.now c.loop-t.t (omega arith) in
    (e, rw e (c.requires.5.below c.loop-t.t l))

-- its shares are below q
own : (c : At-loop-t) → c.loop-t.own < c.args.q
own c = paired_lt _ _ _ _ _ _ c.requires.3 c.requires.4 c.requires.0 _ _ _ _ c.loop-t.invariant (omega arith)

other : (c : In-loop-t) → at c.loop-t.list (c.args.i + 1 + c.loop-t.t) < c.args.q
other c = other_lt _ _ _ _ _ _ c.requires.3 c.requires.4 c.requires.0 _ _ _ _ c.loop-t.invariant (omega arith) (omega (arith, turn c))

pub loop-t-init : goal.loop-t-init
loop-t-init c =
    let a = c.args in
    let m : a.i + 1 + 0 ≡ a.i + 1 = omega arith in
    let p : a.start + 0 ≡ a.start = omega arith in
    rw (m, p, c.widen-own.ensures) (paired_none _ _ _ _ _ _ c.requires.3 c.requires.4 c.requires.0)

pub add-own-requires : goal.add-own-requires
add-own-requires c =
    let m = modulus (goal.at.add-own-requires c).At-loop-t in
    let w = word c (turn (goal.at.add-own-requires c).In-loop-t) in
    (omega (arith, own (goal.at.add-own-requires c).At-loop-t), omega (arith, w.1), omega (arith, c.requires.2.small))

pub sub-requires : goal.sub-requires
sub-requires c =
    let m = modulus (goal.at.sub-requires c).At-loop-t in
    let i = (goal.at.sub-requires c).In-loop-t in
    let v : c.widen.result < c.args.q = omega (arith, c.widen.ensures, other i) in
    let w = (word (goal.at.sub-requires c).After-widen-r (turn i)).1 in
    (omega arith, omega arith, omega (arith, c.requires.2.small))

pub narrow-requires : goal.narrow-requires
narrow-requires c = rw (c.sub.ensures, modulus (goal.at.narrow-requires c).At-loop-t) (add_lt _ (omega (arith, c.requires.2.large)) _ _)

pub loop-t-preserved : goal.loop-t-preserved
loop-t-preserved c =
    let a = c.args in
    let t = c.loop-t.t in
    let m = modulus (goal.at.loop-t-preserved c).At-loop-t in
    let l = turn (goal.at.loop-t-preserved c).In-loop-t in
    let w = (word (goal.at.loop-t-preserved c).After-widen-r l).0 in
    let j : a.i + 1 + (t + 1) ≡ a.i + 1 + t + 1 = omega arith in
    let p : a.start + (t + 1) ≡ a.start + t + 1 = omega arith in
    rw (j, p) (
    paired-next _ _ _ _ _ _ c.requires.3 c.requires.4 c.requires.0 _ _ _ _ c.loop-t.invariant (omega arith) _ _ (omega (arith, c.requires.1)) (c.add-own.ensures ∙ add_cong m refl w)
    (c.narrow.ensures ∙ c.sub.ensures ∙ sub_cong m c.widen.ensures w)
    )

pub narrow-requires-2 : goal.narrow-requires-2
narrow-requires-2 c = own (goal.at.narrow-requires-2 c).At-loop-t

pub returns : goal.returns
returns c =
    let a = c.args in
    let P = c.loop-t.invariant in
    let d = length-drop a.start a.words.now in
    let e : a.n ≡ a.i + 1 + c.loop-t.t = omega (arith, c.loop-t-test.false, c.loop-t.auto.t-end, length-take (a.start + (a.n - (a.i + 1)) - a.start) (drop a.start a.words.now), c.requires.5.room) in
    (length-set c.loop-t.list a.i _ ∙ P.eight, paired-all _ _ _ _ _ _ c.requires.3 c.requires.4 c.requires.0 _ _ _ _ P (omega arith) e c.requires.1 _ c.narrow-2.ensures, refl)
