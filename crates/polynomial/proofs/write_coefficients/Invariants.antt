-- The coefficients below t stand in the output, and the work area is as it was.
use mathlib.Core.Path.{◌≡◌}
use Prim.Native.Nat.{◌≤◌}
use Rattle.buffers.specs.Overwrite.{overwrite}
use Rattle.polynomial.specs.Polynomial.{polynomial_shares, polynomial_words}
use Rattle.polynomial.proofs.write_coefficients.Given as goal

abbrev pub invariant-loop-t : goal.invariant-loop-t
invariant-loop-t l =
    (l.t ≤ l.m) × (l.out ≡ overwrite l.initial.out 0 (polynomial_shares l.n l.k l.q l.t l.x l.y l.words)) × (l.work ≡ l.initial.work) × (l.p ≡ polynomial_words l.n l.k l.t)
