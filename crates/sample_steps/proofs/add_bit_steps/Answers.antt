-- The bit's steps, its row in the totals, and their records.
use mathlib.Core.Path.{◌≡◌, refl, ap, ◌∙◌}
use Prim.Native.Nat.{ℕ, ◌<◌}
use native.Mathlib.Omega.{arith}
use Rattle.buffers.specs.Overwrite.{overwrite}
use Rattle.buffers.specs.Positions.{at, table, after, Same}
use Rattle.buffers.specs.PositionLaws.{table_same, front_at, front_length}
use Rattle.checks.specs.Width.{bit_lt}
use Rattle.conversion.specs.Conversion.{bits_at, convert_bit}
use Rattle.conversion.proofs.Laws.{convert_bit_lt, convert_bit_local}
use Rattle.conversion.proofs.Rows.{bit_below}
use Rattle.totals.specs.Totals.{signed_sum}
use Rattle.records.specs.Records.{RecordedBy, per_share}
use Rattle.records.specs.Laws.{per_share-same, records_then, fits_behind}
use Rattle.steps.specs.Steps.{convert_steps}
use Rattle.steps.specs.Laws.{convert_steps-same}
use Rattle.sample_steps.proofs.add_bit_steps.Goals as goal
use Rattle.sample_steps.proofs.add_bit_steps.Goals.{After-add_row, After-bits_at-bits, After-convert_bit_steps-list}

bits : (c : After-bits_at-bits) → Same c.args.n (at c.bits_at-bits.result) (bits_at (at c.args.shares.now) c.args.t)
bits c i l = c.bits_at-bits.ensures.same i (omega (arith, c.requires.2))

module _ (c : After-convert_bit_steps-list) (b : Same c.args.n (at c.bits_at-bits.result) (bits_at (at c.args.shares.now) c.args.t)) where
  -- the records of its steps
  wrote : let w = after c.args.start (at c.args.words.now) in RecordedBy c.args.out.now (convert_steps c.args.q c.args.bit c.args.n (bits_at (at c.args.shares.now) c.args.t) w) c.convert_bit_steps-list.new.out
  wrote = let w = after c.args.start (at c.args.words.now) in rw (convert_steps-same c.args.q c.args.bit c.args.n _ _ w w b (λ i h. refl)) at c.convert_bit_steps-list.ensures.1

  row : Same c.args.n (at c.convert_bit_steps-list.result) (convert_bit c.args.q c.args.n (bits_at (at c.args.shares.now) c.args.t) (after c.args.start (at c.args.words.now)))
  row i l =
      let first : at c.bits_at-bits.result 0 < 2 = rw (b 0 c.requires.1) (bit_lt _ _) in
      c.convert_bit_steps-list.ensures.0.same i l ∙ convert_bit_local c.args.q c.args.n _ _ _ _ (omega (arith, c.requires.3.large)) (bit_below c.args.q c.args.n c.requires.3.large (at c.args.shares.now) c.args.t) b (λ j k. refl) i l

-- the totals with this bit in them, and their records
module _ (c : After-add_row) (r : Same c.args.n (at c.convert_bit_steps-list.result) (convert_bit c.args.q c.args.n (bits_at (at c.args.shares.now) c.args.t) (after c.args.start (at c.args.words.now)))) where
  abbrev totals : ℕ → ℕ
  totals i = signed_sum c.args.q c.args.negative (at c.args.work.now i) (convert_bit c.args.q c.args.n (bits_at (at c.args.shares.now) c.args.t) (after c.args.start (at c.args.words.now)) i)

  added : c.add_row.new.work ≡ overwrite c.args.work.now 0 (table c.args.n totals)
  added = let a = c.args in c.add_row.ensures ∙ ap (overwrite a.work.now 0) (table_same a.n _ _ (λ i l. ap (signed_sum a.q a.negative (at a.work.now i)) (r i l)))

  shown : per_share c.args.n c.args.bit 0 5 (at c.add_row.new.work) ≡ per_share c.args.n c.args.bit 0 5 totals
  shown = per_share-same c.args.n c.args.bit 0 5 _ _ (front_at c.args.work.now c.args.n totals _ added)

pub add_row-requires : goal.add_row-requires
add_row-requires c =
    let at-goal = goal.at.add_row-requires c in
    let r = row at-goal.After-convert_bit_steps-list (bits at-goal.After-bits_at-bits) in
    (c.requires.2, c.requires.3, (λ i l. rw (r i l) (convert_bit_lt _ _ _ _ (bit_below c.args.q c.args.n c.requires.3.large (at c.args.shares.now) c.args.t) i l)), c.requires.5, c.requires.6)

pub write_group-requires : goal.write_group-requires
write_group-requires c =
    let at-goal = goal.at.write_group-requires c in
    let b = bits at-goal.After-bits_at-bits in
    let r = row at-goal.After-convert_bit_steps-list b in
    (c.requires.2, omega (arith, front_length _ _ _ _ (added at-goal.After-add_row r) c.requires.5, c.requires.5), rw (shown at-goal.After-add_row r) (fits_behind _ _ c.requires.7 (wrote at-goal.After-convert_bit_steps-list b)))

pub returns : goal.returns
returns c =
    let at-goal = goal.at.returns c in
    let b = bits at-goal.After-bits_at-bits in
    let r = row at-goal.After-convert_bit_steps-list b in
    record { work_after = added at-goal.After-add_row r; recorded = records_then _ _ (wrote at-goal.After-convert_bit_steps-list b) (rw (shown at-goal.After-add_row r) at c.write_group.ensures) }
