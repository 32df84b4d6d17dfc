-- The first i words stand in front.
use mathlib.Core.Path.{◌≡◌}
use Prim.Native.Nat.{◌≤◌}
use lib.ListN.{length}
use Rattle.buffers.specs.Overwrite.{overwrite}
use Rattle.lesson_file.specs.Records.{words_from}
use Rattle.lesson_file.proofs.copy_shares.Given as goal

abbrev pub invariant-loop-i : goal.invariant-loop-i
invariant-loop-i l = (l.i ≤ l.count) × (l.shares ≡ overwrite l.initial.shares 0 (words_from l.file l.at l.i)) × (length l.shares ≡ length l.initial.shares)
