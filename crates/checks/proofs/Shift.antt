-- `1 << min(k, 16)` in 32 bits tells the words of k bits.
use mathlib.Core.Path.{◌≡◌, sym, ap, ◌∙◌}
use Prim.Native.Nat.{ℕ, min, ◌*◌, ◌%◌, ◌^◌, ◌<◌, ◌≤◌}
use native.Mathlib.Nat.{one-mul, mod-eq_of_lt}
use native.Mathlib.Omega.{arith}
use lib.Dec.{ltb}
use lib.Pow.{pow_mono}
use borrow.Author.Tests.{lt-ltb}
use Rattle.std.proofs.Math.Decide.{dec_le}

pub one_shifted : (k : ℕ) → k ≤ 16 → (1 * 2 ^ k) % 4294967296 ≡ 2 ^ k
one_shifted k h =
    let l : 1 * 2 ^ k < 4294967296 = omega (arith, pow_mono h) in
    mod-eq_of_lt l ∙ one-mul (2 ^ k)

-- every word is below 2 ^ 16, and so below 2 ^ k for a greater k
pub narrow_word : (value k : ℕ) → value < 65536 → ltb value ((1 * 2 ^ min k 16) % 4294967296) ≡ ltb value (2 ^ k)
narrow_word value k h = ap (ltb value) (one_shifted (min k 16) (omega arith)) ∙ go (dec_le k 16)
  where
    go : Dec (k ≤ 16) → ltb value (2 ^ min k 16) ≡ ltb value (2 ^ k)
    go (yes l) = let e : min k 16 ≡ k = omega arith in ap (λ (j : ℕ). ltb value (2 ^ j)) e
    go (no l) =
        let e : min k 16 ≡ 16 = omega arith in
        let m : 16 ≤ k = omega arith in
        rw e (lt-ltb value (2 ^ 16) h ∙ sym (lt-ltb value (2 ^ k) (omega (arith, pow_mono m))))
