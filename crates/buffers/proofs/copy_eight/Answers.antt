use mathlib.Core.Path.{◌≡◌, refl, sym, ap, ◌∙◌}
use Prim.Native.Nat.{ℕ}
use native.Mathlib.Omega.{arith}
use lib.ListN.{take, length-set}
use Rattle.buffers.specs.Overwrite.{overwrite}
use Rattle.buffers.specs.Laws.{overwrite-none, taken_next, taken-all}
use Rattle.buffers.proofs.copy_eight.Goals as goal
use Rattle.buffers.proofs.copy_eight.Goals.{else-i-count, then-i-count}

pub loop-i-init : goal.loop-i-init
loop-i-init c = (omega arith, refl, sym (overwrite-none _ 0))

pub loop-i-preserved : goal.loop-i-preserved
loop-i-preserved c =
    let s = c.args in
    let l = c.loop-i in (
      omega arith,
      elim c.if-i-count.branch [ then-i-count w ↦ rw w.to-is (length-set l.to l.i _ ∙ l.invariant.1) | else-i-count w ↦ rw w.to-is l.invariant.1 ],
      elim c.if-i-count.branch [ then-i-count w ↦ w.to-is ∙ taken_next s.to.now s.from.now l.i l.to _ l.invariant.2 refl w.if-i-count.true (omega (arith, c.requires)) | else-i-count w ↦ w.to-is ∙ l.invariant.2 ∙ taken-all s.to.now s.from.now l.i w.if-i-count.false ],
    )

pub returns : goal.returns
returns c =
    let e : c.loop-i.i ≡ 8 = omega arith in
    c.loop-i.invariant.2 ∙ ap (λ (i : ℕ). overwrite c.args.to.now 0 (take i c.args.from.now)) e
