use mathlib.Core.Path.{refl, ap, ◌∙◌}
use mathlib.Core.List.{List}
use Prim.Native.Nat.{ℕ}
use native.Mathlib.Nat.{le_refl}
use native.Mathlib.Omega.{arith}
use lib.ListN.{length-set}
use Rattle.buffers.specs.Positions.{at}
use Rattle.buffers.specs.PositionLaws.{front-behind}
use Rattle.buffers.specs.Rows.{values-none, values-next, values-all}
use Rattle.totals.proofs.move_totals.Goals as goal

pub loop-i-init : goal.loop-i-init
loop-i-init c = (omega arith, values-none _ _, values-none _ _, refl, refl)

pub loop-i-preserved : goal.loop-i-preserved
loop-i-preserved c =
    let l = c.loop-i in
    let e = ap (λ (m : List ℕ). at m l.i) l.invariant.1 ∙ front-behind _ _ _ _ (le_refl _) in
    (omega arith, values-next _ _ _ _ _ l.invariant.1 refl (omega (arith, c.requires.0)), values-next _ _ _ _ _ l.invariant.2 e (omega (arith, c.requires.1)), length-set l.work l.i _ ∙ l.invariant.3, length-set l.out l.i _ ∙ l.invariant.4)

pub returns : goal.returns
returns c = let l = c.loop-i in (values-all _ _ _ _ _ (omega arith) l.invariant.1, values-all _ _ _ _ _ (omega arith) l.invariant.2)
