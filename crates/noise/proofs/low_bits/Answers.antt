-- A mask of k ones keeps the remainder by 2 ^ k.
use mathlib.Core.Path.{◌≡◌, ◌∙◌}
use Prim.Native.Nat.{ℕ, ◌-◌, ◌*◌, ◌%◌, ◌^◌, ◌≤◌, ◌<◌}
use native.Mathlib.Nat.{mod-eq_of_lt}
use native.Mathlib.Omega.{arith}
use lib.Bits.{bit_and, and_mask}
use lib.Pow.{pow_mono}
use Rattle.noise.proofs.low_bits.Goals as goal

module _ (k : ℕ) (h : k ≤ 3) where
  power : 1 * 2 ^ k % 4294967296 ≡ 2 ^ k
  power =
      let l : 1 * 2 ^ k < 4294967296 = omega (arith, pow_mono h) in
      mod-eq_of_lt l ∙ omega arith

  masked : (v : ℕ) → bit_and v (1 * 2 ^ k % 4294967296 - 1) ≡ v % 2 ^ k
  masked v = rw power (and_mask v k)

pub returns : goal.returns
returns c = masked c.args.k c.requires c.args.group
