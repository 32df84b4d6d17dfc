use mathlib.Core.Path.{◌≡◌, refl, ap, ◌∙◌}
use mathlib.Core.List.{List}
use Prim.Native.Nat.{ℕ, ◌+◌, ◌<◌}
use native.Mathlib.Numerals.{add-one}
use native.Mathlib.Omega.{arith}
use lib.Bits.{bit_xor}
use lib.ListN.{length, take}
use lib.Seq.{take-suc, take_all}
use Rattle.buffers.specs.Positions.{at}
use Rattle.masking.specs.Sharing.{xor_all}
use Rattle.masking.specs.Xor.{xor_all-append, xor_all-one}
use Rattle.masking.proofs.xor_all.Goals as goal

none : (l : List ℕ) → 0 ≡ xor_all (take 0 l)
unfolding xor_all
none l = refl

next : (l : List ℕ) (i : ℕ) → i < length l → bit_xor (xor_all (take i l)) (at l i) ≡ xor_all (take (i + 1) l)
next l i h = rw (add-one i, take-suc l i 0 h, xor_all-append, xor_all-one)

pub loop-share-init : goal.loop-share-init
loop-share-init c = none c.args.list.now

pub loop-share-preserved : goal.loop-share-preserved
loop-share-preserved c =
    let l = c.args.list.now in
    let r = c.loop-share in
    ap (λ (x : ℕ). bit_xor x (at l r.share-index)) r.invariant ∙ next l r.share-index (omega arith)

pub returns : goal.returns
returns c =
    let l = c.args.list.now in
    let r = c.loop-share in
    r.invariant ∙ ap xor_all (take_all r.share-index l (omega arith))
