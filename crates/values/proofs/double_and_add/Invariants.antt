-- After i turns the first i totals are doubled and have their share, or all where there are fewer.
use mathlib.Core.Path.{◌≡◌}
use Prim.Native.Nat.{◌≤◌}
use lib.ListN.{length, take}
use Rattle.buffers.specs.Overwrite.{overwrite}
use Rattle.values.proofs.Steps.{doubled_of}
use Rattle.values.proofs.double_and_add.Given as goal

abbrev pub invariant-loop-i : goal.invariant-loop-i
invariant-loop-i l = (l.i ≤ 8) × (length l.totals ≡ length l.initial.totals) × (l.totals ≡ overwrite l.initial.totals 0 (take l.i (doubled_of l.n l.q l.initial.totals l.row)))
