-- The count of ones is the sum of the bits.
use native.Mathlib.Omega.{arith}
use Rattle.binomial.specs.Weight.{ones_weight}
use Rattle.binomial.proofs.weight.Goals as goal

pub returns : goal.returns
returns c = ones_weight 16 c.args.x (omega arith) c.ranges.x.fits
