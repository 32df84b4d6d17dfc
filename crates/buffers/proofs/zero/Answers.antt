use mathlib.Core.Path.{refl, sym, ap, ◌∙◌}
use Prim.Native.Nat.{ℕ}
use native.Mathlib.Omega.{arith}
use lib.ListN.{replicate, length-set, length-replicate, get_or-replicate}
use lib.Seq.{take_all}
use Rattle.buffers.specs.Overwrite.{overwrite}
use Rattle.buffers.specs.Laws.{overwrite-none, taken_next, taken-all}
use Rattle.buffers.proofs.zero.Goals as goal
use Rattle.buffers.proofs.zero.Goals.{else-j-count, then-j-count}

pub loop-j-init : goal.loop-j-init
loop-j-init c = (omega arith, refl, sym (overwrite-none _ 0))

pub loop-j-preserved : goal.loop-j-preserved
loop-j-preserved c =
    let s = c.args in
    let l = c.loop-j in
    let zeros = replicate {A = ℕ} s.count 0 in
    let m = length-replicate {A = ℕ} s.count 0 in (
      omega arith,
      elim c.if-j-count.branch [ then-j-count w ↦ rw w.to-is (length-set l.to l.j _ ∙ l.invariant.1) | else-j-count w ↦ rw w.to-is l.invariant.1 ],
      elim c.if-j-count.branch [ then-j-count w ↦ w.to-is ∙ taken_next s.to.now zeros l.j l.to 0 l.invariant.2 (sym (get_or-replicate {A = ℕ} s.count l.j 0 0 w.if-j-count.true)) (omega (arith, w.if-j-count.true)) (omega (arith, w.if-j-count.true, c.requires.1)) | else-j-count w ↦ w.to-is ∙ l.invariant.2 ∙ taken-all s.to.now zeros l.j (omega (arith, w.if-j-count.false)) ],
    )

pub returns : goal.returns
returns c =
    let m = length-replicate {A = ℕ} c.args.count 0 in
    c.loop-j.invariant.2 ∙ ap (overwrite c.args.to.now 0) (take_all c.loop-j.j (replicate c.args.count 0) (omega (arith, c.requires.0)))
