use mathlib.Core.Path.{◌≡◌, refl, ap, ◌∙◌}
use Prim.Native.Nat.{ℕ, ◌+◌, ◌*◌}
use native.Mathlib.Omega.{arith}
use lib.ListN.{length}
use Rattle.buffers.specs.Positions.{at, after, Same, Below}
use Rattle.buffers.specs.PositionLaws.{after-at, front_length}
use Rattle.buffers.specs.Blocks.{block-fits}
use Rattle.conversion.specs.Conversion.{bits_at, bit_words, convert_bit, row}
use Rattle.conversion.specs.Arrays.{Drawn, drawn_part}
use Rattle.totals.specs.Totals.{signed_sum}
use Rattle.totals.proofs.Totals.{totals-none, totals-below, totals-next}
use Rattle.steps.specs.Steps.{bit_steps}
use Rattle.sample_steps.proofs.Steps.{steps_at, bit-steps, bits-all, bits_fit, bits-next, bits-done}
use Rattle.sample_steps.proofs.add_string_steps.Goals as goal
use Rattle.sample_steps.proofs.add_string_steps.Goals.{At-loop-t, In-loop-t}

drawn : (c : In-loop-t) → let a = c.args in let w = bit_words a.n in Drawn a.q (a.start + c.loop-t.t * w) w a.words.now
drawn c =
    let w = bit_words c.args.n in
    drawn_part _ (c.loop-t.t * w) _ refl (block-fits w c.loop-t-test.true) c.requires.5

-- from where they begin
from : (c : In-loop-t) → let a = c.args in let w = c.loop-t.t * bit_words a.n in after (a.start + w) (at a.words.now) ≡ after w (after a.start (at a.words.now))
from c = after-at _ _ _ (at c.args.words.now) refl

below : (c : At-loop-t) → Below c.args.q c.args.n (at c.loop-t.work)
below c = totals-below _ _ ((omega (arith, c.requires.4.large))) c.args.negative (at c.args.shares.now) ((after c.args.start (at c.args.words.now))) _ c.loop-t.t _ c.loop-t.invariant.1

rows : (c : In-loop-t) → let t = c.loop-t.t in Same c.args.n (convert_bit c.args.q c.args.n (bits_at (at c.args.shares.now) t) (after (c.args.start + c.loop-t.t * bit_words c.args.n) (at c.args.words.now))) (row c.args.q c.args.n (at c.args.shares.now) ((after c.args.start (at c.args.words.now))) t)
unfolding row
rows c i h = ap (λ (v : ℕ → ℕ). convert_bit c.args.q c.args.n (bits_at (at c.args.shares.now) c.loop-t.t) v i) (from c)

made : (c : In-loop-t) → let a = c.args in let l = c.loop-t in let b = bits_at (at a.shares.now) l.t in let v = after (a.start + l.t * bit_words a.n) (at a.words.now) in
    bit_steps a.q (a.first + l.t) a.n b v (λ i. signed_sum a.q a.negative (at l.work i) (convert_bit a.q a.n b v i)) ≡ steps_at a.n a.k a.q a.negative a.first (at a.shares.now) ((after c.args.start (at c.args.words.now))) a.work.now l.t
made c = let a = c.args in bit-steps a.n a.k a.q a.negative a.first (at a.shares.now) ((after c.args.start (at c.args.words.now))) a.work.now ((omega (arith, c.requires.4.large))) _ _ _ c.loop-t.invariant.1 (from c)

room : (c : At-loop-t) → length c.loop-t.work ≡ length c.args.work.now
room c = front_length _ _ _ _ c.loop-t.invariant.1 c.requires.6

pub loop-t-init : goal.loop-t-init
loop-t-init c =
    (omega arith, totals-none _ _ ((omega (arith, c.requires.4.large))) c.args.negative (at c.args.shares.now) ((after c.args.start (at c.args.words.now))) _ c.requires.6 c.requires.7, bits-all _ _ _ _ _ _ _ _ _ _ c.requires.8, refl)

pub add_bit_steps-requires : goal.add_bit_steps-requires
add_bit_steps-requires c =
    let l = c.loop-t in
    let turn = (goal.at.add_bit_steps-requires c).In-loop-t in
    let begun = (goal.at.add_bit_steps-requires c).At-loop-t in (
      omega (arith, c.requires.2),
      omega (arith, c.requires.0),
      c.requires.1,
      c.requires.4,
      drawn turn,
      omega (arith, room begun, c.requires.6),
      below begun,
      rw (made turn) (bits_fit _ _ _ _ _ _ _ _ _ _ _ l.invariant.2 c.loop-t-test.true),
    )

pub loop-t-preserved : goal.loop-t-preserved
loop-t-preserved c =
    let l = c.loop-t in (
      omega arith,
      totals-next _ _ ((omega (arith, c.requires.4.large))) c.args.negative (at c.args.shares.now) ((after c.args.start (at c.args.words.now))) _ l.t _ l.invariant.1 _ _ (rows (goal.at.loop-t-preserved c).In-loop-t) c.add_bit_steps.ensures.work_after,
      bits-next _ _ _ _ _ _ _ _ _ _ _ l.invariant.2 c.loop-t-test.true (rw (made (goal.at.loop-t-preserved c).In-loop-t) at c.add_bit_steps.ensures.recorded.wrote),
      c.add_bit_steps.ensures.recorded.same ∙ l.invariant.3,
    )

pub returns-clause-recorded : goal.returns-clause-recorded
returns-clause-recorded c =
    let l = c.loop-t.invariant in
    record { wrote = bits-done _ _ _ _ _ _ _ _ _ _ _ l.2 (omega arith); same = l.3 }
