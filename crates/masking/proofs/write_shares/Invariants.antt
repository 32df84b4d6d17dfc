-- The first i masks stand in front.
use Rattle.std.proofs.Common.{◌≡◌, take}
use Rattle.buffers.specs.Overwrite.{overwrite}
use Rattle.masking.proofs.write_shares.Given as goal

abbrev pub invariant-loop-i : goal.invariant-loop-i
invariant-loop-i l = l.out ≡ overwrite l.initial.out 0 (take l.i l.masks)
