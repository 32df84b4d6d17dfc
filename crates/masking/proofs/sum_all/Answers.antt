use mathlib.Core.Path.{◌∙◌}
use Prim.Native.Nat.{◌<◌}
use native.Mathlib.Omega.{arith}
use lib.ListN.{length}
use Rattle.residue.proofs.Sum.{running_none, running_next, running_all, sum_list, sum_lt}
use Rattle.buffers.specs.Positions.{at}
use Rattle.masking.proofs.sum_all.Goals as goal

pub loop-word-init : goal.loop-word-init
loop-word-init c = running_none c.args.q (at c.args.list.now)

pub add_words-sum-requires : goal.add_words-sum-requires
add_words-sum-requires c =
    let r = c.loop-word in
    let a : r.sum < c.args.q = rw r.invariant (sum_lt c.args.q c.requires.1 r.word-index (at c.args.list.now)) in
    (a, c.requires.3 r.word-index (omega arith), c.requires.2)

pub loop-word-preserved : goal.loop-word-preserved
loop-word-preserved c =
    let a = c.args in
    let r = c.loop-word in
    running_next a.q (at a.list.now) r.word-index r.sum _ r.invariant c.add_words-sum.ensures

pub returns : goal.returns
returns c =
    let a = c.args in
    let r = c.loop-word in
    running_all a.q (at a.list.now) r.word-index (length a.list.now) r.sum (omega arith) r.invariant ∙ sum_list a.q a.list.now
