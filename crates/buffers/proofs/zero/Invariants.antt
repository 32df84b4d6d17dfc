-- After j turns the first j zeros stand in front, or all where there are fewer.
use mathlib.Core.Path.{◌≡◌}
use Prim.Native.Nat.{◌≤◌}
use lib.ListN.{length, take, replicate}
use Rattle.buffers.specs.Overwrite.{overwrite}
use Rattle.buffers.proofs.zero.Given as goal

abbrev pub invariant-loop-j : goal.invariant-loop-j
invariant-loop-j l = (l.j ≤ 8) × (length l.to ≡ length l.initial.to) × (l.to ≡ overwrite l.initial.to 0 (take l.j (replicate l.count 0)))
