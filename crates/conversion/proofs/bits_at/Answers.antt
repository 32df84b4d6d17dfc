use mathlib.Core.Path.{◌≡◌, refl, ◌∙◌}
use native.Mathlib.Omega.{arith}
use lib.Bits.{and_mask}
use Rattle.conversion.specs.Arrays.{holds-next}
use Rattle.conversion.proofs.bits_at.Goals as goal

pub loop-i-init : goal.loop-i-init
loop-i-init c = record { eight = refl; same = λ j l. absurd (omega arith) }

pub loop-i-preserved : goal.loop-i-preserved
loop-i-preserved c = holds-next _ _ _ _ (omega arith) (c.from_u16.ensures ∙ and_mask _ 1) c.loop-i.invariant

pub returns : goal.returns
returns c =
    let e : c.loop-i.i ≡ 8 = omega arith in
    rw e at c.loop-i.invariant
