-- The XOR of the shares before this one.
use mathlib.Core.Path.{◌≡◌}
use lib.ListN.{take}
use Rattle.masking.specs.Sharing.{xor_all}
use Rattle.masking.proofs.xor_all.Given as goal

abbrev pub invariant-loop-share : goal.invariant-loop-share
invariant-loop-share l = l.all ≡ xor_all (take l.share-index l.list)
