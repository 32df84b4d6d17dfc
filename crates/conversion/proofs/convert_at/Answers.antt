-- Steps 1 and 2 with the first half of the words, step 3 with the second.
use mathlib.Core.Path.{◌≡◌, ap, ◌∙◌}
use Prim.Native.Nat.{◌+◌, ◌-◌}
use native.Mathlib.Omega.{arith}
use Rattle.buffers.specs.Overwrite.{overwrite}
use Rattle.buffers.specs.Positions.{at, after}
use Rattle.buffers.specs.PositionLaws.{after-at, table_same}
use Rattle.conversion.specs.Conversion.{pairs}
use Rattle.conversion.specs.Conversion as C
use Rattle.conversion.proofs.Laws.{pairs-twice}
use Rattle.conversion.specs.Arrays.{Holds, drawn_part}
use Rattle.conversion.proofs.Lists.{holds-below, bit-done}
use Rattle.conversion.proofs.convert_at.Goals as goal
use Rattle.conversion.proofs.convert_at.Goals.{After-add_share-first}

-- the list of steps 1 and 2
list : (c : After-add_share-first) → let a = c.args in Holds a.n (C.convert a.q a.n (at a.bits.now) (after a.start (at a.words.now))) c.add_share-first.result.list × (c.add_share-first.result.next ≡ a.start + pairs a.n)
list c =
    let n = c.args.n in
    let e : n - 1 + 1 ≡ n = omega arith in
    rw e at c.add_share-first.ensures

pub add_share-first-requires : goal.add_share-first-requires
add_share-first-requires c =
    let e : c.args.n - 1 + 1 ≡ c.args.n = omega arith in
    let d = drawn_part c.args.start 0 (pairs c.args.n) (omega arith) (omega (arith, pairs-twice c.args.n)) c.requires.4 in
    (omega arith, omega arith, rw e c.requires.2, c.requires.3, rw e d)

pub refresh-requires : goal.refresh-requires
refresh-requires c =
    let l = list (goal.at.refresh-requires c).After-add_share-first in
    let e = pairs-twice c.args.n in
    let h = c.requires.3.large in (
      omega arith,
      c.requires.3,
      l.0.eight,
      holds-below _ _ _ _ _ (omega (arith, c.requires.2 0 (omega arith))) l.0,
      drawn_part _ (pairs c.args.n) _ l.1 (omega arith) c.requires.4,
      omega arith,
    )

pub returns : goal.returns
returns c =
    let a = c.args in
    let l = list (goal.at.returns c).After-add_share-first in
    let r = c.refresh.ensures in (
      r.0 ∙ ap (overwrite a.row.now 0) (table_same _ _ _ (bit-done _ _ _ _ _ _ (after-at _ _ _ (at a.words.now) l.1) l.0)),
      omega (arith, r.1, l.1, pairs-twice a.n),
    )
