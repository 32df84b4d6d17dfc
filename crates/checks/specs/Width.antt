-- A word is below 2 ^ k exactly where its bits at k and above are zero.
use Rattle.std.specs.Prelude.{◌≡◌, refl, ℕ, ◌+◌, ◌/◌, ◌%◌, ◌^◌, ◌≤◌, ◌<◌}
use Rattle.std.proofs.Common.{ap, ◌∙◌, div-one, div-lt_iff_lt-mul, arith, pow_mono, pow_pos, shr-shr}
use Rattle.std.proofs.Math.Nat.{div-eq_of_lt}
use Rattle.std.proofs.Math.Arith.{bin_ind}

-- bit i of x
abbrev pub bit : ℕ → ℕ → ℕ
bit x i = x / 2 ^ i % 2

pub bit_lt : (x i : ℕ) → bit x i < 2
bit_lt x i = omega arith

-- bit i of what is left when the j lowest bits are dropped
pub bit-shift : (x j i : ℕ) → bit (x / 2 ^ j) i ≡ bit x (j + i)
bit-shift x j i = ap (λ (m : ℕ). m % 2) (shr-shr x j i)

pub bit-lowest : (x : ℕ) → bit x 0 ≡ x % 2
bit-lowest x = ap (λ (m : ℕ). m % 2) (div-one x)

pub narrow_bits : (x k : ℕ) → x < 2 ^ k → (i : ℕ) → k ≤ i → bit x i ≡ 0
narrow_bits x k h i l =
    let s : x < 2 ^ i = omega (arith, pow_mono l) in
    ap (λ (m : ℕ). m % 2) (div-eq_of_lt s)

no_bit : (x : ℕ) → ((i : ℕ) → bit x i ≡ 0) → x ≡ 0
no_bit =
    bin_ind (λ (x : ℕ). ((i : ℕ) → bit x i ≡ 0) → x ≡ 0) (λ h. refl)
    (λ x ih h. omega (arith, h 0, bit-lowest x, ih (λ i. bit-shift x 1 i ∙ h (1 + i))))

pub bits-narrow : (x k : ℕ) → ((i : ℕ) → k ≤ i → bit x i ≡ 0) → x < 2 ^ k
bits-narrow x k h =
    let z : x / 2 ^ k < 1 = omega (arith, no_bit (x / 2 ^ k) (λ i. bit-shift x k i ∙ h (k + i) (omega arith))) in
    omega (arith, (div-lt_iff_lt-mul {x = x} {y = 1} (pow_pos k)).0 z)
