-- Small integers, and sums of them, in 32 bits with a sign.
use Prim.Native.Nat.{◌^◌, ◌≤◌, ◌<◌}
use native.Mathlib.Omega.{arith}
use lib.IntN.{ℤ, pos, negsuc, nat_abs, ◌+ℤ◌}
use lib.Signed.{mag}
use mir.Syntax.{w32}
use mir.Val.{SFits}
use borrow.Author.Rules.{sfits_of}
use Rattle.residue.proofs.Integers.{nat_abs_plus}

mag_le : (z : ℤ) → mag z ≤ nat_abs z
mag_le (pos n) = omega arith
mag_le (negsuc n) = omega arith

pub small-fits : (z : ℤ) → nat_abs z < 2 ^ 31 → SFits w32 z
small-fits z h =
    let m : mag z < 2 ^ 31 = omega (arith, mag_le z) in
    sfits_of m

pub sum_fits : (a b : ℤ) → nat_abs a < 2 ^ 30 → nat_abs b ≤ 16 → SFits w32 (a +ℤ b)
sum_fits a b h l = small-fits (a +ℤ b) (omega (arith, nat_abs_plus a b))
