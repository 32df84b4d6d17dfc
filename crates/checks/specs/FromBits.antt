-- The number of k bits, and its laws.
use Rattle.std.specs.Prelude.{◌≡◌, refl, ℕ, zero, suc, ◌+◌, ◌*◌, ◌/◌, ◌%◌, ◌^◌, ◌<◌}
use Rattle.std.proofs.Common.{sym, ap, ◌∙◌, suc-le-suc, pow-suc, arith}
use Rattle.std.proofs.Math.Pow.{high, low}
use Rattle.std.proofs.lemmas.Nat.{mod-pow-add}
use Rattle.checks.specs.Width.{bit, bit-lowest, bit-shift}

-- the number of the bits f 0, the lowest, to f (k - 1)
unfoldable pub from_bits : ℕ → (ℕ → ℕ) → ℕ
from_bits zero f = 0
from_bits (suc k) f = f 0 + 2 * from_bits k (λ j. f (suc j))

-- each is a bit
abbrev pub AreBits : (ℕ → ℕ) → Type 0
AreBits f = (j : ℕ) → f j < 2

pub from_same : (k : ℕ) (f g : ℕ → ℕ) → ((j : ℕ) → j < k → f j ≡ g j) → from_bits k f ≡ from_bits k g
unfolding from_bits
from_same zero f g h = refl
from_same (suc k) f g h = rw (h zero (omega arith), from_same k (λ j. f (suc j)) (λ j. g (suc j)) (λ j l. h (suc j) (suc-le-suc l)))

pub from_lt : (k : ℕ) (f : ℕ → ℕ) → AreBits f → from_bits k f < 2 ^ k
unfolding from_bits
from_lt zero f h = omega arith
from_lt (suc k) f h = omega (arith, h 0, from_lt k (λ j. f (suc j)) (λ j. h (suc j)), pow-suc 2 k)

-- b bits above a others
pub from_append : (b a : ℕ) (f : ℕ → ℕ) → from_bits (b + a) f ≡ from_bits b (λ j. f (a + j)) * 2 ^ a + from_bits a f
unfolding from_bits
from_append b zero f =
    let e : b + 0 ≡ b = omega arith in
    rw e (omega (arith, from_same b f (λ j. f (0 + j)) (λ j l. ap f (omega arith))))
from_append b (suc a) f =
    let e : b + suc a ≡ suc (b + a) = omega arith in
    let high = from_same b (λ j. f (suc (a + j))) (λ j. f (suc a + j)) (λ j l. ap f (omega arith)) in
    rw e (omega (arith, from_append b a (λ j. f (suc j)), ap (λ (p : ℕ). from_bits b (λ j. f (suc a + j)) * p) (pow-suc 2 a), ap (λ (w : ℕ). w * 2 ^ a) high))

-- k of them, from bit s on
pub from_part : (k m s : ℕ) (f : ℕ → ℕ) → AreBits f → from_bits ((m + k) + s) f / 2 ^ s % 2 ^ k ≡ from_bits k (λ j. f (s + j))
from_part k m s f h =
    ap (λ (x : ℕ). x / 2 ^ s % 2 ^ k) (from_append (m + k) s f)
    ∙ ap (λ (x : ℕ). x % 2 ^ k) (high (from_bits (m + k) (λ j. f (s + j))) s (from_lt s f h) ∙ from_append m k (λ j. f (s + j)))
    ∙ low (from_bits m (λ j. f (s + (k + j)))) k (from_lt k (λ j. f (s + j)) (λ i. h (s + i)))

-- the lowest k bits of a number
pub from_number : (k x : ℕ) → from_bits k (bit x) ≡ x % 2 ^ k
unfolding from_bits
from_number zero x = omega arith
from_number (suc k) x =
    let e : k + 1 ≡ suc k = omega arith in
    let rest = from_same k (λ j. bit x (suc j)) (bit (x / 2)) (λ j l. sym (bit-shift x 1 j ∙ ap (bit x) (omega arith))) in
    omega (arith, bit-lowest x, from_number k (x / 2), mod-pow-add x k 1, ap (λ (m : ℕ). x % 2 ^ m) e, rest)
