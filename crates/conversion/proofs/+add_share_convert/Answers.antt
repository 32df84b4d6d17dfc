-- One share is its own list; each further one is added to the list of those before it.
use mathlib.Core.Path.{◌≡◌, refl}
use native.Mathlib.Omega.{arith}
use Prim.Native.Nat.{◌+◌, ◌-◌}
use Rattle.buffers.specs.Positions.{at}
use Rattle.buffers.specs.PositionLaws.{after-at}
use Rattle.conversion.specs.Conversion.{pairs}
use Rattle.conversion.specs.Arrays.{drawn_part}
use Rattle.conversion.proofs.Laws.{pairs-few, pairs-step}
use Rattle.conversion.proofs.Lists.{one_list, holds-below, share_added}
use Rattle.conversion.proofs.+add_share_convert.Goals as goal

pub add_share-convert-first-requires : goal.add_share-convert-first-requires
add_share-convert-first-requires t c =
    let e = pairs-step (c.args.j + 1) c.args.j (omega arith) in
    (omega arith, (omega arith, omega arith, (λ i l. c.requires.2 i (omega arith)), c.requires.3, drawn_part _ 0 _ (omega arith) (omega arith) c.requires.4))

pub add_share-xor_share-list-requires : goal.add_share-xor_share-list-requires
add_share-xor_share-list-requires t c =
    let l = c.convert-first.ensures in
    let e = pairs-step (c.args.j + 1) c.args.j (omega arith) in
    let h = c.requires.3.large in (
      omega arith,
      c.requires.2 c.args.j (omega arith),
      c.requires.3,
      holds-below _ _ _ _ _ (omega (arith, c.requires.2 0 (omega arith))) l.0,
      drawn_part _ (pairs c.args.j) _ l.1 (omega arith) c.requires.4,
    )

pub add_share-overflow_add-result : goal.add_share-overflow_add-result
add_share-overflow_add-result t c =
    let e = pairs-step (c.args.j + 1) c.args.j (omega arith) in
    omega (arith, c.convert-first.ensures.1, c.requires.4.room)

pub add_share-returns : goal.add_share-returns
add_share-returns t c =
    let a = c.args in
    let l = c.convert-first.ensures in
    let e = pairs-step (a.j + 1) a.j (omega arith) in (
      share_added _ _ _ _ _ _ _ _ _ (omega arith) (omega arith) (after-at _ _ _ (at a.words.now) l.1) refl l.0 c.xor_share-list.ensures,
      omega arith,
    )

pub convert-returns-then-j-eq1 : goal.convert-returns-then-j-eq1
convert-returns-then-j-eq1 t c =
    let e : pairs c.args.j ≡ 0 = pairs-few c.args.j (omega (arith, c.if-j-eq1.true)) in
    (one_list _ _ _ _ _ _ c.if-j-eq1.true refl c.one_share.ensures, omega arith)

pub convert-add_share-requires : goal.convert-add_share-requires
convert-add_share-requires t c =
    let e : c.args.j - 1 + 1 ≡ c.args.j = omega arith in
    (omega arith, (omega arith, omega arith, rw e c.requires.2, c.requires.3, rw e c.requires.4))

pub convert-returns : goal.convert-returns
convert-returns t c =
    let e : c.args.j - 1 + 1 ≡ c.args.j = omega arith in
    rw e at c.add_share.ensures
