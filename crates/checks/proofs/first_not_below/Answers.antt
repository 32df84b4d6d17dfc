use mathlib.Core.Path.{refl, sym, ◌∙◌}
use Prim.Native.Nat.{◌*◌, ◌<◌}
use native.Mathlib.Nat.{zero-mul, add-zero, add_assoc}
use native.Mathlib.Omega.{arith}
use lib.ListN.{length}
use Rattle.checks.specs.Laws.{search_begins}
use Rattle.checks.proofs.Rows.{inside, passes, finds, row_ends, ends}
use Rattle.checks.proofs.first_not_below.Goals as goal
use Rattle.checks.proofs.first_not_below.Goals.{In-loop-i}

-- word i of bit b lies in the list
in_list : (c : In-loop-i) → c.loop-i.at < length c.args.words.now
in_list c =
    inside c.args.q c.args.start c.args.bits c.args.per c.args.words.now c.requires c.bits.b c.loop-i.i c.loop-i.at
    c.bits-test.true c.loop-i-test.true c.loop-i.invariant.2

pub bits-init : goal.bits-init
bits-init c = (omega arith, refl, omega (arith, zero-mul c.args.per), rw (zero-mul c.args.per) (search_begins _ _ _))

pub loop-i-init : goal.loop-i-init
loop-i-init c = (omega arith, c.bits.invariant.1, omega (arith, c.bits.invariant.2), rw (add-zero (c.bits.b * c.args.per)) c.bits.invariant.3)

pub offset_bounds-words-at : goal.offset_bounds-words-at
offset_bounds-words-at c = omega (arith, in_list c)

pub bounds-words-at : goal.bounds-words-at
bounds-words-at c = in_list (goal.at.bounds-words-at c).In-loop-i

pub overflow_add-at : goal.overflow_add-at
overflow_add-at c = omega (arith, in_list (goal.at.overflow_add-at c).In-loop-i)

pub loop-i-preserved : goal.loop-i-preserved
loop-i-preserved c =
    let l = c.loop-i in (
      omega arith,
      l.invariant.1,
      omega (arith, l.invariant.2),
      rw (← add_assoc) (passes c.args.q c.args.start c.args.bits c.args.per c.args.words.now c.requires c.bits.b l.i l.at
          c.bits-test.true c.loop-i-test.true l.invariant.2 c.if-words-at.false l.invariant.3),
    )

pub bits-preserved : goal.bits-preserved
bits-preserved c =
    let l = c.loop-i in
    let e = row_ends c.args.q c.args.start c.args.bits c.args.per c.args.words.now c.requires c.bits.b l.i l.invariant.0 c.loop-i-test.false in (
      omega arith,
      l.invariant.1,
      omega (arith, e, l.invariant.2),
      rw e at l.invariant.3,
    )

pub returns-after-bits : goal.returns-after-bits
returns-after-bits c =
    let l = c.bits in
    l.invariant.1
    ∙ sym (ends c.args.q c.args.start c.args.bits c.args.per c.args.words.now c.requires l.b l.at l.invariant.0 c.bits-test.false l.invariant.3)

pub returns-then-words-at : goal.returns-then-words-at
returns-then-words-at c =
    let l = c.loop-i in
    sym (finds c.args.q c.args.start c.args.bits c.args.per c.args.words.now c.requires c.bits.b l.i l.at
    c.bits-test.true c.loop-i-test.true l.invariant.2 c.if-words-at.true l.invariant.3)
