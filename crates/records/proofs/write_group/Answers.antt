use Rattle.std.proofs.Common.{◌<◌, arith, length-take}
use Rattle.std.proofs.lemmas.List.{get_or-take}
use Rattle.buffers.specs.Positions.{at}
use Rattle.records.specs.Laws.{per_share-none, per_share-next, length-per_share, records_none, records_then, fits_left}
use Rattle.records.proofs.write_group.Goals as goal

pub loop-i-init : goal.loop-i-init
loop-i-init c = rw per_share-none (records_none _)

pub write_record-requires : goal.write_record-requires
write_record-requires c =
    let a = c.args in
    let i = c.loop-i.i in
    let count = length-per_share a.bit a.round a.kind (at a.values.now) in
    fits_left _ _ _ (omega (arith, count i, count a.n, c.loop-i-test.true, length-take a.n a.values.now)) c.requires.2 c.loop-i.invariant

pub loop-i-preserved : goal.loop-i-preserved
loop-i-preserved c =
    let a = c.args in
    let i = c.loop-i.i in
    let l : i < a.n = omega (arith, length-take a.n a.values.now) in
    rw (per_share-next a.bit a.round a.kind (at a.values.now) i) (records_then _ _ c.loop-i.invariant (rw (get_or-take a.n a.values.now i 0 l) at c.write_record.ensures))
