-- A 32-bit difference, with q added where it is below zero, is the difference modulo q. Negated before, it is the difference the other way round.
use mathlib.Core.Path.{◌≡◌, ap, ◌∙◌}
use Prim.Native.Nat.{ℕ, zero, suc, ◌+◌, ◌*◌, ◌-◌, ◌/◌, ◌%◌, ◌^◌, ◌≤◌, ◌<◌}
use native.Mathlib.Nat.{mul-zero, mul-one}
use native.Mathlib.Omega.{arith}
use native.Mathlib.Decide.{dec_le}
use lib.Bits.{bit_and, bit_xor, and_mask, mask_lt, xor_add_and, xor_zero_r}
use Rattle.residue.specs.Residue.{reduce, sub, cswap_sub}
use Rattle.residue.proofs.Laws.{reduce-modulus_plus, sub_unique}

-- ---- the 32-bit difference, and its negative where `swap` is 1: every bit flipped, and 1 added

abbrev wrapped : ℕ → ℕ → ℕ
wrapped a b = bit_and (a + 4294967296 - b) 4294967295

abbrev negated : ℕ → ℕ → ℕ
negated s swap = bit_xor s (swap * 4294967295) + swap

abbrev pub difference : ℕ → ℕ → ℕ → ℕ
difference a b swap = bit_and (negated (wrapped a b) swap) 4294967295

module _ (a b : ℕ) where
  pub difference_lt : (swap : ℕ) → difference a b swap < 2 ^ 32
  difference_lt swap = mask_lt (negated (wrapped a b) swap) 32

  flipped : bit_xor (wrapped a b) 4294967295 + wrapped a b ≡ 4294967295
  flipped = omega (arith, xor_add_and (wrapped a b) 4294967295, and_mask (wrapped a b) 32, mask_lt (a + 4294967296 - b) 32)

  pub negated_le : (swap : ℕ) → swap < 2 → negated (wrapped a b) swap ≤ 2 ^ 32
  negated_le zero l = rw (xor_zero_r (wrapped a b)) (omega (arith, mask_lt (a + 4294967296 - b) 32))
  negated_le (suc zero) l = omega (arith, flipped)
  negated_le (suc (suc n)) l = absurd (omega arith)

-- ---- q, added where bit 31 of d is set

module _ (q d : ℕ) where
  low : d < 2 ^ 31 → q * (d / 2 ^ 31) ≡ 0
  low h =
      let z : d / 2 ^ 31 ≡ 0 = omega arith in
      ap (λ (x : ℕ). q * x) z ∙ mul-zero q

  high : 2 ^ 31 ≤ d → d < 2 ^ 32 → q * (d / 2 ^ 31) ≡ q
  high h l =
      let z : d / 2 ^ 31 ≡ 1 = omega arith in
      ap (λ (x : ℕ). q * x) z ∙ mul-one q

  pub added_le : d < 2 ^ 32 → q * (d / 2 ^ 31) ≤ q
  added_le l = go (dec_le (2 ^ 31) d)
    where
      go : Dec (2 ^ 31 ≤ d) → q * (d / 2 ^ 31) ≤ q
      go (yes h) = omega (arith, high h l)
      go (no h) = let g : d < 2 ^ 31 = omega arith in omega (arith, low g)

module _ (a b q d : ℕ) (h : b ≤ q + a) (l : a < q + b) (u : q < 2 ^ 31) (e : d ≡ (a + 4294967296 - b) % 4294967296) where
  corrected : (d + q * (d / 2 ^ 31)) % 4294967296 ≡ sub q a b
  corrected = go (dec_le b a)
    where
      go : Dec (b ≤ a) → (d + q * (d / 2 ^ 31)) % 4294967296 ≡ sub q a b
      go (yes g) =
          let z = low q d (omega arith) in
          let s : (d + q * (d / 2 ^ 31)) % 4294967296 + b ≡ a = omega arith in
          sub_unique q (omega arith) a b _ (omega arith) (ap (reduce q) s)
      go (no g) =
          let z = high q d (omega arith) (omega arith) in
          let s : (d + q * (d / 2 ^ 31)) % 4294967296 + b ≡ q + a = omega arith in
          sub_unique q (omega arith) a b _ (omega arith) (ap (reduce q) s ∙ reduce-modulus_plus q a)

-- ---- both together

module _ (a b q : ℕ) (l : a < q + b) (u : q < 2 ^ 31) where
  is : wrapped a b ≡ (a + 4294967296 - b) % 4294967296
  is = and_mask (a + 4294967296 - b) 32

  pub value : (swap : ℕ) → b + swap ≤ q → swap < 2 → (difference a b swap + q * (difference a b swap / 2 ^ 31)) % 4294967296 ≡ cswap_sub q swap a b
  value zero h m =
      corrected a b q (difference a b 0) (omega arith) l u (rw (xor_zero_r (wrapped a b)) (omega (arith, and_mask (wrapped a b + 0) 32, is)))
  value (suc zero) h m =
      corrected b a q (difference a b 1) (omega arith) (omega arith) u (omega (arith, and_mask (negated (wrapped a b) 1) 32, flipped a b, is))
  value (suc (suc n)) h m = absurd (omega arith)
