-- The masks in front, and one word behind them.
use mathlib.Core.Path.{refl, sym, ap₂, ◌∙◌}
use mathlib.Core.List.{List}
use Prim.Native.Nat.{ℕ}
use native.Mathlib.Omega.{arith}
use lib.Bits.{bit_xor}
use lib.ListN.{length, set}
use lib.Seq.{take_all}
use Rattle.buffers.specs.Laws.{overwrite-none, taken_next, front_snoc}
use Rattle.masking.specs.Sharing.{xor_all, mask_shares}
use Rattle.masking.proofs.write_shares.Goals as goal

pub loop-i-init : goal.loop-i-init
loop-i-init c = sym (overwrite-none c.args.out.now 0)

pub loop-i-preserved : goal.loop-i-preserved
loop-i-preserved c = taken_next c.args.out.now c.args.masks.now c.loop-i.i _ _ c.loop-i.invariant refl c.loop-i-test.true (omega arith)

pub returns : goal.returns
unfolding mask_shares
returns c =
    let a = c.args in
    let l = c.loop-i in
    ap₂ (λ (l : List ℕ) (x : ℕ). set l (length a.masks.now) (bit_xor a.value x)) (rw (take_all l.i a.masks.now c.loop-i-test.false) at l.invariant) c.xor_all.ensures
    ∙ front_snoc a.out.now a.masks.now (bit_xor a.value (xor_all a.masks.now)) (omega arith)
