use mathlib.Core.Path.{◌≡◌, refl, ap, ◌∙◌}
use Prim.Native.Nat.{ℕ, ◌+◌, ◌*◌}
use native.Mathlib.Omega.{arith}
use lib.ListN.{length}
use Rattle.buffers.specs.Overwrite.{overwrite}
use Rattle.buffers.specs.Positions.{at, table, after, Same, Below}
use Rattle.buffers.specs.PositionLaws.{front_length}
use Rattle.buffers.specs.Blocks.{block-fits}
use Rattle.checks.specs.Width.{bit_lt}
use Rattle.conversion.specs.Conversion.{bits_at, bit_words, row}
use Rattle.conversion.specs.Arrays.{drawn_part}
use Rattle.conversion.proofs.Rows.{row_lt, row_from}
use Rattle.totals.specs.Totals.{totals_of}
use Rattle.totals.proofs.Totals.{totals-none, totals-below, totals-next}
use Rattle.totals.proofs.add_string.Goals as goal
use Rattle.totals.proofs.add_string.Goals.{After-bits_at-bits, After-convert_at-p, At-loop-bit}

below : (c : At-loop-bit) → Below c.args.q c.args.n (at c.loop-bit.work)
below c = totals-below _ _ ((omega (arith, c.requires.3.large))) c.args.negative (at c.args.shares.now) ((after c.args.start (at c.args.words.now))) _ c.loop-bit.bit _ c.loop-bit.invariant.3

room : (c : At-loop-bit) → length c.loop-bit.work ≡ length c.args.work.now
room c = front_length _ _ _ _ c.loop-bit.invariant.3 c.requires.5

-- the bits of a turn, and its row
bits : (c : After-bits_at-bits) → Same c.args.n (at c.bits_at-bits.result) (bits_at (at c.args.shares.now) c.loop-bit.bit)
bits c i l = c.bits_at-bits.ensures.same i (omega (arith, c.requires.1))

made : (c : After-convert_at-p) → Same c.args.n (at c.convert_at-p.new.row) (row c.args.q c.args.n (at c.args.shares.now) ((after c.args.start (at c.args.words.now))) c.loop-bit.bit)
made c =
    row_from _ _ c.requires.3.large c.loop-bit.bit c.args.start _ _ _ (at c.args.words.now) _ _ (omega (arith, c.requires.0)) (λ i l. c.bits_at-bits.ensures.same i (omega (arith, c.requires.1))) c.loop-bit.invariant.1 c.convert_at-p.ensures.0

pub loop-bit-init : goal.loop-bit-init
loop-bit-init c =
    (omega arith, omega arith, refl, totals-none _ _ ((omega (arith, c.requires.3.large))) c.args.negative (at c.args.shares.now) ((after c.args.start (at c.args.words.now))) _ c.requires.5 c.requires.6)

pub convert_at-p-requires : goal.convert_at-p-requires
convert_at-p-requires c =
    let l = c.loop-bit in
    let w = bit_words c.args.n in
    (c.requires.0, c.requires.1, (λ i h. rw (bits (goal.at.convert_at-p-requires c).After-bits_at-bits i h) (bit_lt _ _)), c.requires.3, drawn_part _ (l.bit * w) _ l.invariant.1 (block-fits w c.loop-bit-test.true) c.requires.4, omega (arith, l.invariant.2, c.requires.1))

pub add_row-requires : goal.add_row-requires
add_row-requires c =
    (c.requires.1, c.requires.3, (λ i h. rw (made (goal.at.add_row-requires c).After-convert_at-p i h) (row_lt _ _ c.requires.3.large _ _ _ i h)), omega (arith, room (goal.at.add_row-requires c).At-loop-bit, c.requires.5), below (goal.at.add_row-requires c).At-loop-bit)

pub loop-bit-preserved : goal.loop-bit-preserved
loop-bit-preserved c =
    let l = c.loop-bit in (
      omega arith,
      omega (arith, l.invariant.1, c.convert_at-p.ensures.1),
      front_length _ _ _ _ c.convert_at-p.ensures.0 (omega (arith, l.invariant.2, c.requires.1)) ∙ l.invariant.2,
      totals-next _ _ ((omega (arith, c.requires.3.large))) c.args.negative (at c.args.shares.now) ((after c.args.start (at c.args.words.now))) _ l.bit _ l.invariant.3 _ (at c.convert_at-p.new.row) (made (goal.at.loop-bit-preserved c).After-convert_at-p) c.add_row.ensures,
    )

pub shape_of-work : goal.shape_of-work
shape_of-work c = room (goal.at.shape_of-work c).At-loop-bit

pub returns : goal.returns
returns c =
    let l = c.loop-bit in
    let a = c.args in
    let e : l.bit ≡ a.k = omega arith in
    (l.invariant.3 ∙ ap (λ (t : ℕ). overwrite a.work.now 0 (table a.n (totals_of a.n a.q a.negative (at a.shares.now) ((after c.args.start (at c.args.words.now))) a.work.now t))) e, l.invariant.1 ∙ ap (λ (t : ℕ). a.start + t * bit_words a.n) e)
