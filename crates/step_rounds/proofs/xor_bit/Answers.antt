use mathlib.Core.Path.{◌≡◌, refl, ap, ap₂, ◌∙◌}
use mathlib.Core.Logic.{◌≢◌}
use Prim.Native.Nat.{ℕ, zero, suc, ◌<◌}
use native.Mathlib.Omega.{arith}
use lib.ListN.{length-set, length-take}
use Rattle.std.proofs.Common.{get_or-take}
use Rattle.residue.specs.Residue.{add}
use Rattle.residue.proofs.Laws.{reduce-small, sub_zero}
use Rattle.buffers.specs.Positions.{at}
use Rattle.buffers.specs.PositionLaws.{set_agrees}
use Rattle.conversion.specs.Conversion.{less_twice, xor_bit}
use Rattle.conversion.proofs.Laws.{less_twice_lt}
use Rattle.conversion.specs.Arrays.{Holds, holds-next}
use Rattle.step_rounds.proofs.xor_bit.Goals as goal
use Rattle.step_rounds.proofs.xor_bit.Goals.{After-less_twice, After-loop-i, In-loop-i}

behind : (q b : ℕ) (B : ℕ → ℕ) (t : ℕ) → t ≢ 0 → less_twice q b (B t) ≡ xor_bit q b B t
unfolding xor_bit
behind q b B zero e = absurd (e refl)
behind q b B (suc t) e = refl

turn : (c : In-loop-i) → c.loop-i.i < c.args.n
turn c = omega (arith, c.loop-i-test.true, length-take c.args.n c.args.list)

-- C of a share, where b is not added
shared : (c : After-less_twice) → let a = c.args in c.loop-i.i < a.n → c.less_twice.result ≡ less_twice a.q a.bit (at a.list c.loop-i.i)
shared c l =
    let a = c.args in
    let i = c.loop-i.i in
    let e = c.widen.ensures ∙ get_or-take a.n a.list i 0 l in
    let h : at a.list i < a.q = c.requires.4 i l in
    c.less_twice.ensures ∙ ap₂ (λ (b u : ℕ). less_twice a.q b u) c.widen-b.ensures (sub_zero a.q ((omega (arith, c.requires.3.large))) _ ∙ reduce-small a.q (omega arith) ∙ e)

-- all shares, in front of the loop's end
all : (c : After-loop-i) → let a = c.args in Holds a.n (λ t. less_twice a.q a.bit (at a.list t)) c.loop-i.c
all c =
    let l = c.loop-i in
    let a = c.args in
    let e : l.i ≡ a.n = omega (arith, c.loop-i-test.false, l.auto.i-end, c.requires.1, length-take a.n a.list) in
    rw e at l.invariant

pub loop-i-init : goal.loop-i-init
loop-i-init c = record { eight = refl; same = λ t l. absurd (omega arith) }

pub less_twice-requires : goal.less_twice-requires
less_twice-requires c =
    let a = c.args in
    let i = c.loop-i.i in
    let l = turn (goal.at.less_twice-requires c).In-loop-i in
    (omega (arith, c.widen.ensures, get_or-take a.n a.list i 0 l, c.requires.4 i l), (omega (arith, c.requires.3.large)), omega (arith, c.widen-b.ensures, c.requires.2), c.requires.3.small)

pub loop-i-preserved : goal.loop-i-preserved
loop-i-preserved c =
    let l = turn (goal.at.loop-i-preserved c).In-loop-i in
    holds-next _ _ _ _ (omega (arith, c.requires.1)) (shared c l) c.loop-i.invariant

pub add_words-requires : goal.add_words-requires
add_words-requires c =
    let A = all (goal.at.add_words-requires c).After-loop-i in
    (rw (A.same 0 c.requires.0) (less_twice_lt c.args.q ((omega (arith, c.requires.3.large))) c.args.bit (at c.args.list 0)), omega (arith, c.requires.2, c.requires.3.large), c.requires.3.small)

pub returns : goal.returns
unfolding xor_bit
returns c =
    let a = c.args in
    let l = c.loop-i in
    let A = all (goal.at.returns c).After-loop-i in
    record { eight = length-set l.c 0 _ ∙ A.eight; same = λ t h. set_agrees l.c 0 c.add_words.result (xor_bit a.q a.bit (at a.list)) (omega (arith, A.eight)) (c.add_words.ensures ∙ ap (λ (v : ℕ). add a.q v a.bit) (A.same 0 c.requires.0)) t (λ e. A.same t h ∙ behind a.q a.bit (at a.list) t e) }
