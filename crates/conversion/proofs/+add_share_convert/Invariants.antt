-- The measure of both is the number of shares, twice, and one more where a share is added.
use Prim.Native.Nat.{◌+◌, ◌*◌}
use Rattle.conversion.proofs.+add_share_convert.Given as goal

abbrev pub decreases-add_share : goal.decreases-add_share
decreases-add_share l = 2 * l.j + 1

abbrev pub decreases-convert : goal.decreases-convert
decreases-convert l = 2 * l.j
