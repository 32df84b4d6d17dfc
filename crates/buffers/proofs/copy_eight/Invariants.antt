-- After i turns the first i elements stand in front, or all where there are fewer.
use mathlib.Core.Path.{◌≡◌}
use Prim.Native.Nat.{◌≤◌}
use lib.ListN.{length, take}
use Rattle.buffers.specs.Overwrite.{overwrite}
use Rattle.buffers.proofs.copy_eight.Given as goal

abbrev pub invariant-loop-i : goal.invariant-loop-i
invariant-loop-i l = (l.i ≤ 8) × (length l.to ≡ length l.initial.to) × (l.to ≡ overwrite l.initial.to 0 (take l.i l.from))
