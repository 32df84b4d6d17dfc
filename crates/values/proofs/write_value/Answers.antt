use mathlib.Core.Path.{◌≡◌, refl, ap, ◌∙◌}
use Prim.Native.Nat.{◌-◌, ◌*◌, ◌<◌}
use native.Mathlib.Omega.{arith}
use Rattle.buffers.specs.Overwrite.{overwrite}
use Rattle.buffers.specs.Positions.{at, table, after, Same}
use Rattle.buffers.specs.PositionLaws.{table-zeros, front_length}
use Rattle.buffers.specs.Blocks.{block-fits}
use Rattle.checks.specs.Width.{bit_lt}
use Rattle.conversion.specs.Conversion.{bits_at, bit_words, row}
use Rattle.conversion.specs.Arrays.{drawn_part}
use Rattle.conversion.proofs.Rows.{row_lt, row_from}
use Rattle.values.proofs.Steps.{upper_start, upper-end, upper-below, upper_turn}
use Rattle.values.proofs.write_value.Goals as goal
use Rattle.values.proofs.write_value.Goals.{After-bits_at-bits, After-convert_at, After-zero}

zeros : (c : After-zero) → let a = c.args in c.zero.new.to ≡ overwrite a.out.now 0 (table a.n (λ i. 0))
zeros c = c.zero.ensures ∙ ap (overwrite _ 0) (table-zeros _)

-- the bits of a turn, and their row
bits : (c : After-bits_at-bits) → Same c.args.n (at c.bits_at-bits.result) (bits_at (at c.args.shares.now) (c.loop-t.t - 1))
bits c i l = c.bits_at-bits.ensures.same i (omega (arith, c.requires.1))

made : (c : After-convert_at) → Same c.args.n (at c.convert_at.new.row) (row c.args.q c.args.n (at c.args.shares.now) (after c.args.start (at c.args.words.now)) (c.loop-t.t - 1))
made c =
    row_from _ _ c.requires.3.large (c.loop-t.t - 1) c.args.start _ _ _ (at c.args.words.now) _ _ (omega (arith, c.requires.0)) (λ i l. c.bits_at-bits.ensures.same i (omega (arith, c.requires.1))) refl c.convert_at.ensures.0

pub loop-t-init : goal.loop-t-init
loop-t-init c =
    (refl, upper_start c.args.q c.args.n c.args.k (at c.args.shares.now) (after c.args.start (at c.args.words.now)) _ _ (zeros (goal.at.loop-t-init c).After-zero))

pub convert_at-requires : goal.convert_at-requires
convert_at-requires c =
    let l = c.loop-t in
    let w = bit_words c.args.n in
    let u : l.t - 1 < c.args.k = omega (arith, l.auto.t, c.loop-t-test.true) in
    (c.requires.0, c.requires.1, (λ i h. rw (bits (goal.at.convert_at-requires c).After-bits_at-bits i h) (bit_lt _ _)), c.requires.3, drawn_part _ ((l.t - 1) * w) _ refl (block-fits w u) c.requires.4, omega (arith, l.invariant.0, c.requires.1))

pub double_and_add-requires : goal.double_and_add-requires
double_and_add-requires c =
    let a = c.args in
    let l = c.loop-t in
    let z = front_length _ _ _ _ (zeros (goal.at.double_and_add-requires c).After-zero) c.requires.5 in (
      c.requires.1,
      c.requires.3,
      (λ i h. rw (made (goal.at.double_and_add-requires c).After-convert_at i h) (row_lt _ _ c.requires.3.large _ _ _ i h)),
      omega (arith, l.auto.out, z, c.requires.5),
      upper-below _ _ a.k (at a.shares.now) (after a.start (at a.words.now)) l.t _ _ l.invariant.1 (omega (arith, c.requires.3.large)),
    )

pub loop-t-preserved : goal.loop-t-preserved
loop-t-preserved c =
    let l = c.loop-t in (
      front_length _ _ _ _ c.convert_at.ensures.0 (omega (arith, l.invariant.0, c.requires.1)) ∙ l.invariant.0,
      upper_turn _ _ c.args.k (at c.args.shares.now) (after c.args.start (at c.args.words.now)) l.t _ _ l.invariant.1 c.convert_at.new.row _ c.loop-t-test.true l.auto.t (made (goal.at.loop-t-preserved c).After-convert_at) c.double_and_add.ensures,
    )

pub returns : goal.returns
returns c =
    let l = c.loop-t in
    (upper-end c.args.q c.args.n c.args.k (at c.args.shares.now) (after c.args.start (at c.args.words.now)) _ _ (zeros (goal.at.returns c).After-zero) l.t _ (omega arith) l.invariant.1, refl)
