use mathlib.Core.Path.{◌≡◌, refl, sym, ap₂, ◌∙◌}
use Prim.Native.Nat.{◌*◌, ◌<◌}
use native.Mathlib.Omega.{arith}
use lib.ListN.{length-take}
use Rattle.std.proofs.Common.{get_or-take}
use Rattle.residue.proofs.Laws.{bit_times, mul_small}
use Rattle.buffers.specs.Positions.{at}
use Rattle.conversion.specs.Arrays.{holds-next}
use Rattle.step_rounds.proofs.multiply.Goals as goal
use Rattle.step_rounds.proofs.multiply.Goals.{After-widen, In-loop-i}

turn : (c : In-loop-i) → c.loop-i.i < c.args.n
turn c = omega (arith, c.loop-i-test.true, length-take c.args.n c.args.list)

small : (c : In-loop-i) → let a = c.args in at a.list c.loop-i.i * a.bit < a.q
small c = bit_times _ _ _ (c.requires.2 _ (turn c)) c.requires.1

product : (c : After-widen) → let a = c.args in c.loop-i.i < a.n → c.widen.result * c.widen-b.result ≡ at a.list c.loop-i.i * a.bit
product c l = ap₂ ◌*◌ (c.widen.ensures ∙ get_or-take c.args.n c.args.list c.loop-i.i 0 l) c.widen-b.ensures

pub loop-i-init : goal.loop-i-init
loop-i-init c = record { eight = refl; same = λ t l. absurd (omega arith) }

pub overflow_mul-widen : goal.overflow_mul-widen
overflow_mul-widen c = let i = (goal.at.overflow_mul-widen c).In-loop-i in omega (arith, product c (turn i), small i)

pub narrow-requires : goal.narrow-requires
narrow-requires c = let i = (goal.at.narrow-requires c).In-loop-i in rw (product c (turn i)) (small i)

pub loop-i-preserved : goal.loop-i-preserved
loop-i-preserved c =
    let i = (goal.at.loop-i-preserved c).In-loop-i in
    holds-next _ _ _ _ (omega (arith, c.requires.0, turn i)) (c.narrow.ensures ∙ product (goal.at.loop-i-preserved c).After-widen (turn i) ∙ sym (mul_small c.args.q _ _ (small i))) c.loop-i.invariant

pub returns : goal.returns
returns c =
    let l = c.loop-i in
    let a = c.args in
    let e : l.i ≡ a.n = omega (arith, c.loop-i-test.false, l.auto.i-end, c.requires.0, length-take a.n a.list) in
    rw e at l.invariant
