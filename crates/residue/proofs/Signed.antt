-- Differences and magnitudes in 32 bits with a sign.
use mathlib.Core.Path.{◌≡◌, refl, ap, ap₂, ◌∙◌}
use mathlib.Core.Bool.{true, false, true≢false}
use Prim.Native.Nat.{ℕ, suc, ◌^◌, ◌<◌, ◌≤◌}
use native.Mathlib.Nat.{zero-add}
use native.Mathlib.Omega.{arith}
use native.Mathlib.Decide.{dec_le}
use lib.IntN.{ℤ, pos, negsuc, ◌-ℤ◌, nat_abs}
use lib.Signed.{mag, lt_z}
use mir.Syntax.{w32, w64}
use mir.Val.{Fits, SFits, to_z, of_z}
use mir.Facts.{to_z_pos, to_z-of_z, sfits_widen}
use borrow.Author.Rules.{sfits_of}
use borrow.Author.Tests.{ltb-true}
use Rattle.residue.proofs.Integers.{minus-above, minus-below}

module _ (a b : ℕ) (ha : a < 2 ^ 31) (hb : b < 2 ^ 31) where
  pub as_i32 : to_z w32 a -ℤ to_z w32 b ≡ pos a -ℤ pos b
  as_i32 = ap₂ (λ (x y : ℤ). x -ℤ y) (to_z_pos w32 {n = a} ha) (to_z_pos w32 {n = b} hb)

  pub fits : SFits w32 (to_z w32 a -ℤ to_z w32 b)
  fits = rw as_i32 (go (dec_le b a))
    where
      go : Dec (b ≤ a) → SFits w32 (pos a -ℤ pos b)
      go (yes h) = rw (minus-above a b h) (sfits_of (omega arith))
      go (no h) =
          let l : a < b = omega arith in
          rw (minus-below a b l) (sfits_of (omega arith))

-- an i32 that a call answers is itself when it is read back
pub read_back : (z : ℤ) → mag z < 2 ^ 31 → to_z w32 (of_z w32 z) ≡ z
read_back z h = to_z-of_z {w = w32} (sfits_of {w = w32} {z = z} h)

-- ---- the magnitude

below_zero : (z : ℤ) → lt_z z (pos 0) ≡ true → pos 0 -ℤ z ≡ pos (nat_abs z)
below_zero (pos n) e = absurd (omega (arith, ltb-true n 0 e))
below_zero (negsuc n) e = ap pos (zero-add (suc n))

not_below_zero : (z : ℤ) → lt_z z (pos 0) ≡ false → z ≡ pos (nat_abs z)
not_below_zero (pos n) e = refl
not_below_zero (negsuc n) e = absurd (true≢false e)

magnitude_le : (z : ℤ) → mag z < 2 ^ 31 → nat_abs z ≤ 2 ^ 31
magnitude_le (pos n) h = omega arith
magnitude_le (negsuc n) h = omega arith

module _ (z : ℤ) (f : SFits w32 z) where
  pub magnitude_fits : Fits w32 (nat_abs z)
  magnitude_fits = record { fits = omega (arith, magnitude_le z f.sfits) }

  pub widened : SFits w64 (to_z w32 (of_z w32 z))
  widened = rw (to_z-of_z f) (sfits_widen tt f)

  read : to_z w64 (of_z w64 (to_z w32 (of_z w32 z))) ≡ z
  read = to_z-of_z widened ∙ to_z-of_z f

  module _ (n : lt_z (to_z w32 (of_z w32 z)) (pos 0) ≡ true) where
    is : pos 0 -ℤ to_z w64 (of_z w64 (to_z w32 (of_z w32 z))) ≡ pos (nat_abs z)
    is = rw read (below_zero z (rw (to_z-of_z f) at n))

    pub negated_fits : SFits w64 (pos 0 -ℤ to_z w64 (of_z w64 (to_z w32 (of_z w32 z))))
    negated_fits = rw is (sfits_of (omega (arith, magnitude_le z f.sfits)))

    pub negated : to_z w64 (of_z w64 (pos 0 -ℤ to_z w64 (of_z w64 (to_z w32 (of_z w32 z))))) ≡ pos (nat_abs z)
    negated = to_z-of_z negated_fits ∙ is

  pub kept : lt_z (to_z w32 (of_z w32 z)) (pos 0) ≡ false → to_z w32 (of_z w32 z) ≡ pos (nat_abs z)
  kept n = to_z-of_z f ∙ not_below_zero z (rw (to_z-of_z f) at n)
