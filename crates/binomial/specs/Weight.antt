-- The count of ones of a number is the sum of its bits.
use Rattle.std.specs.Prelude.{◌≡◌, ℕ, zero, suc, ◌+◌, ◌*◌, ◌/◌, ◌%◌, ◌^◌, ◌<◌, ◌≤◌}
use Rattle.std.proofs.Math.Path.{refl, sym}
use Rattle.std.proofs.Common.{ap, ◌∙◌, arith, pow_mono}
use Rattle.std.specs.Int.Count.{ones, ones_step}
use Rattle.std.proofs.lemmas.Nat.{ones-le}
use Rattle.residue.specs.Residue.{total, reduce, add, sum}
use Rattle.residue.proofs.Laws.{reduce_zero, reduce_plus, add-reduce-left}
use Rattle.residue.proofs.Sum.{sum-last}
use Rattle.buffers.specs.Positions.{table}
use Rattle.checks.specs.Width.{bit, bit-lowest, bit-shift}
use Rattle.checks.specs.FromBits.{from_bits, AreBits}
use Rattle.binomial.specs.Signed.{bit_sum, weight}

-- the lowest bit, and those of the half
bit_sum_half : (k x : ℕ) → bit_sum (suc k) x ≡ x % 2 + bit_sum k (x / 2)
unfolding bit_sum
bit_sum_half zero x = omega (arith, bit-lowest x)
bit_sum_half (suc k) x =
    let e : 1 + k ≡ suc k = omega arith in
    omega (arith, bit_sum_half k x, bit-shift x 1 k, ap (bit x) e)

pub ones_bits : (k x : ℕ) → x < 2 ^ k → ones x ≡ bit_sum k x
unfolding bit_sum ones
ones_bits zero x h =
    let e : x ≡ 0 = omega arith in
    ap ones e
ones_bits (suc k) x h = ones_step x ∙ ap (λ (m : ℕ). x % 2 + m) (ones_bits k (x / 2) (omega arith)) ∙ sym (bit_sum_half k x)

-- the bits of a number that is made of them
pub bit_sum_from : (k : ℕ) (f : ℕ → ℕ) → AreBits f → bit_sum k (from_bits k f) ≡ total (table k f)
unfolding from_bits table total
bit_sum_from zero f h = unfold bit_sum in refl
bit_sum_from (suc k) f h =
    let w : ℕ = from_bits k (λ j. f (suc j)) in
    let e : (f 0 + 2 * w) / 2 ≡ w = omega (arith, h 0) in
    let m : (f 0 + 2 * w) % 2 ≡ f 0 = omega (arith, h 0) in
    bit_sum_half k (f 0 + 2 * w) ∙ rw (e, m, bit_sum_from k (λ j. f (suc j)) (λ j. h (suc j)))

module _ (k x : ℕ) (l : k ≤ 16) (h : x < 2 ^ k) where
  pub ones_weight : ones x ≡ weight x
  ones_weight = ones_bits 16 x (omega (arith, pow_mono l))

  -- a string of k bits has its weight in them
  pub weight-bits : weight x ≡ bit_sum k x
  weight-bits = sym ones_weight ∙ ones_bits k x h

  pub weight_le : weight x ≤ k
  weight_le = rw (← ones_weight) (ones-le k x h)

-- the bits, added modulo q
pub sum-bits : (q k x : ℕ) → sum q k (bit x) ≡ reduce q (bit_sum k x)
unfolding bit_sum
sum-bits q zero x = unfold sum in sym (reduce_zero q)
sum-bits q (suc k) x = sum-last q k (bit x) ∙ ap (λ (s : ℕ). add q s (bit x k)) (sum-bits q k x) ∙ add-reduce-left q (bit_sum k x) (bit x k) ∙ sym (reduce_plus q (bit_sum k x) (bit x k))
