-- The one share has its record; each further one is added to the list of those before it, and its round's records stand behind theirs.
use mathlib.Core.Path.{◌≡◌, refl}
use native.Mathlib.Omega.{arith}
use Prim.Native.Nat.{◌+◌}
use Rattle.buffers.specs.Positions.{at, after}
use Rattle.buffers.specs.PositionLaws.{after-at}
use Rattle.conversion.specs.Conversion.{pairs}
use Rattle.conversion.proofs.Laws.{pairs-few, pairs-step}
use Rattle.conversion.specs.Arrays.{drawn_part}
use Rattle.conversion.proofs.Lists.{one_list, holds-below, share_added}
use Rattle.records.specs.Laws.{records_then, fits-first, fits_behind}
use Rattle.step_rounds.proofs.Steps.{round_added, rounds_next, rounds_one}
use Rattle.step_rounds.proofs.+add_share_steps_convert_steps.Goals as goal

pub add_share_steps-convert_steps-first-requires : goal.add_share_steps-convert_steps-first-requires
add_share_steps-convert_steps-first-requires t c =
    let a = c.args in
    let e = pairs-step (a.j + 1) a.j (omega arith) in
    let f = rw (rounds_next a.q a.bit (at a.bits.now) (after a.start (at a.words.now)) a.j) at c.requires.5 in
    (omega arith, (omega arith, omega arith, (λ i l. c.requires.2 i (omega arith)), c.requires.3, drawn_part _ 0 _ (omega arith) (omega arith) c.requires.4, fits-first _ _ _ _ f))

pub add_share_steps-add_round-requires : goal.add_share_steps-add_round-requires
add_share_steps-add_round-requires t c =
    let a = c.args in
    let l = c.convert_steps-first.ensures in
    let e = pairs-step (a.j + 1) a.j (omega arith) in
    let h = c.requires.3.large in
    let f = rw (rounds_next a.q a.bit (at a.bits.now) (after a.start (at a.words.now)) a.j) at c.requires.5 in (
      omega arith,
      c.requires.2 a.j (omega arith),
      c.requires.3,
      holds-below _ _ _ _ _ (omega (arith, c.requires.2 0 (omega arith))) l.0,
      drawn_part _ (pairs a.j) _ l.1 (omega arith) c.requires.4,
      rw (round_added _ _ _ _ _ _ _ (omega arith) l.0 (after-at _ _ _ (at a.words.now) l.1)) (fits_behind _ _ f l.2),
    )

pub add_share_steps-returns : goal.add_share_steps-returns
add_share_steps-returns t c =
    let a = c.args in
    let l = c.convert_steps-first.ensures in
    let r = c.add_round.ensures in
    let e = pairs-step (a.j + 1) a.j (omega arith) in
    let next = after-at _ _ _ (at a.words.now) l.1 in (
      share_added _ _ _ _ _ _ _ _ _ (omega arith) (omega arith) next refl l.0 r.0,
      omega (arith, l.1, r.1),
      rw (rounds_next a.q a.bit (at a.bits.now) (after a.start (at a.words.now)) a.j)
          (records_then _ _ l.2 (rw (round_added _ _ _ _ _ _ _ (omega arith) l.0 next) at r.2)),
    )

pub convert_steps-write_record-requires : goal.convert_steps-write_record-requires
convert_steps-write_record-requires t c =
    let a = c.args in
    rw (rounds_one a.q a.bit (at a.bits.now) (after a.start (at a.words.now)) a.j c.if-j-eq1.true) at c.requires.5

pub convert_steps-returns-then-j-eq1 : goal.convert_steps-returns-then-j-eq1
convert_steps-returns-then-j-eq1 t c =
    let a = c.args in
    let e : pairs a.j ≡ 0 = pairs-few a.j (omega (arith, c.if-j-eq1.true)) in (
      one_list _ _ _ _ _ _ c.if-j-eq1.true refl c.one_share-list.ensures,
      omega arith,
      rw (rounds_one a.q a.bit (at a.bits.now) (after a.start (at a.words.now)) a.j c.if-j-eq1.true) c.write_record.ensures,
    )
