-- The measure of both is the number of shares, twice, and one more where a share is added.
use Prim.Native.Nat.{◌+◌, ◌*◌}
use Rattle.step_rounds.proofs.+add_share_steps_convert_steps.Given as goal

abbrev pub decreases-add_share_steps : goal.decreases-add_share_steps
decreases-add_share_steps l = 2 * l.j + 1

abbrev pub decreases-convert_steps : goal.decreases-convert_steps
decreases-convert_steps l = 2 * l.j
