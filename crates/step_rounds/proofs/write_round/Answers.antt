-- The record of the share, then a group for each list.
use Rattle.std.proofs.Common.{List, ◌++◌, ℕ, suc, add-one, arith}
use Rattle.buffers.specs.Positions.{at}
use Rattle.records.specs.Records.{Step, per_share, FitsIn}
use Rattle.records.specs.Laws.{records_then, fits-first, fits_behind}
use Rattle.step_rounds.proofs.write_round.Goals as goal
use Rattle.step_rounds.proofs.write_round.Goals.{After-write_record, After-write_group, After-write_group-2}

-- the records of a list
abbrev group : ℕ → ℕ → ℕ → List ℕ → List Step
group j bit kind l = per_share (suc j) bit (suc j) kind (at l)

-- the room that is left
left1 : (c : After-write_record) → FitsIn c.write_record.new.out (group c.args.j c.args.bit 1 c.args.extended.now ++ (group c.args.j c.args.bit 2 c.args.products.now ++ group c.args.j c.args.bit 3 c.args.list.now))
left1 c = fits_behind _ _ c.requires.4 (rw (add-one c.args.j) at c.write_record.ensures)

left2 : (c : After-write_group) → FitsIn c.write_group.new.out (group c.args.j c.args.bit 2 c.args.products.now ++ group c.args.j c.args.bit 3 c.args.list.now)
left2 c = fits_behind _ _ (fits_behind _ _ c.requires.4 (rw (add-one c.args.j) at c.write_record.ensures)) (rw (add-one c.args.j) at c.write_group.ensures)

pub write_group-requires : goal.write_group-requires
write_group-requires c =
    (omega (arith, c.requires.0), omega (arith, c.requires.1), rw (add-one c.args.j) (fits-first _ _ _ _ (left1 (goal.at.write_group-requires c).After-write_record)))

pub write_group-requires-2 : goal.write_group-requires-2
write_group-requires-2 c =
    (omega (arith, c.requires.0), omega (arith, c.requires.2), rw (add-one c.args.j) (fits-first _ _ _ _ (left2 (goal.at.write_group-requires-2 c).After-write_group)))

pub write_group-requires-3 : goal.write_group-requires-3
write_group-requires-3 c =
    (omega (arith, c.requires.0), omega (arith, c.requires.3), rw (add-one c.args.j) (fits_behind _ _ (left2 (goal.at.write_group-requires-3 c).After-write_group) (rw (add-one c.args.j) at c.write_group-2.ensures)))

pub returns : goal.returns
returns c =
    let e = add-one c.args.j in
    records_then _ _ (rw e at c.write_record.ensures) (records_then _ _ (rw e at c.write_group.ensures) (records_then _ _ (rw e at c.write_group-2.ensures) (rw e at c.write_group-3.ensures)))
