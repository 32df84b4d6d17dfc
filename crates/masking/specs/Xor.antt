-- Laws of the XOR of numbers and of lists.
use Rattle.std.specs.Prelude.{◌≡◌, refl, List, [], ◌∷◌, ◌++◌, ℕ, zero, suc, ◌+◌, ◌*◌, ◌/◌, ◌%◌, ◌^◌, ◌<◌, length}
use Rattle.std.proofs.Common.{sym, ap, ap₂, ◌∙◌, suc-le-suc, pow_pos}
use Rattle.std.proofs.Math.Nat.{zero-div}
use native.Mathlib.Omega.{arith}
use Rattle.std.proofs.Math.Arith.{bin_ind}
use Rattle.std.specs.Int.Bits.{bit_xor, xor_add_and, xor_self, xor_zero_r}
use Rattle.std.proofs.lemmas.Nat.{xor_shr, xor_mod, xor_comm, xor_lt, xor_block}
use Rattle.residue.specs.Residue.{reduce, add, EachBelow}
use Rattle.residue.proofs.Laws.{add_assoc, add-reduce-left, add-reduce_right}
use Rattle.buffers.specs.Positions.{at, table}
use Rattle.buffers.specs.PositionLaws.{length-table, table_at, table_below, table_same}
use Rattle.checks.specs.Width.{bit}
use Rattle.checks.specs.FromBits.{from_bits, AreBits}
use Rattle.masking.specs.Sharing.{xor_all}

pub xor_half : (a b : ℕ) → bit_xor a b / 2 ≡ bit_xor (a / 2) (b / 2)
xor_half a b = xor_shr a b 1

-- the lowest bit of the XOR is that of the sum
pub xor_parity : (a b : ℕ) → reduce 2 (bit_xor a b) ≡ add 2 a b
unfolding reduce add
xor_parity a b = omega (arith, xor_add_and a b)

pub xor_assoc : (a b c : ℕ) → bit_xor (bit_xor a b) c ≡ bit_xor a (bit_xor b c)
xor_assoc = bin_ind (λ (a : ℕ). (b c : ℕ) → bit_xor (bit_xor a b) c ≡ bit_xor a (bit_xor b c)) (λ b c. refl) step
  where
    lowest : (a b c : ℕ) → reduce 2 (bit_xor (bit_xor a b) c) ≡ reduce 2 (bit_xor a (bit_xor b c))
    lowest a b c =
        xor_parity (bit_xor a b) c
        ∙ rw (← add-reduce-left 2 (bit_xor a b) c, xor_parity a b, add_assoc, ← xor_parity b c, add-reduce_right 2 a (bit_xor b c)) (sym (xor_parity a (bit_xor b c)))

    join : (x y : ℕ) → x / 2 ≡ y / 2 → reduce 2 x ≡ reduce 2 y → x ≡ y
    join x y e f = unfold reduce in omega arith

    step : (a : ℕ) → ((b c : ℕ) → bit_xor (bit_xor (a / 2) b) c ≡ bit_xor (a / 2) (bit_xor b c)) → (b c : ℕ) → bit_xor (bit_xor a b) c ≡ bit_xor a (bit_xor b c)
    step a ih b c = join (bit_xor (bit_xor a b) c) (bit_xor a (bit_xor b c)) (simp xor_half (ih (b / 2) (c / 2))) (lowest a b c)

-- bit t of the XOR is the XOR of the bits t
pub bit-xor : (a b t : ℕ) → bit (bit_xor a b) t ≡ bit_xor (bit a t) (bit b t)
bit-xor a b t = ap (λ (x : ℕ). x % 2) (xor_shr a b t) ∙ xor_mod (a / 2 ^ t) (b / 2 ^ t) 1

-- XORed twice, a number comes back
pub xor_twice : (a b : ℕ) → bit_xor b (bit_xor a b) ≡ a
xor_twice a b = xor_comm b (bit_xor a b) ∙ xor_assoc a b b ∙ ap (bit_xor a) (xor_self b) ∙ xor_zero_r a

-- ---- lists

pub xor_all-append : (a b : List ℕ) → xor_all (a ++ b) ≡ bit_xor (xor_all a) (xor_all b)
unfolding xor_all
xor_all-append [] b = refl
xor_all-append (x ∷ a) b = ap (bit_xor x) (xor_all-append a b) ∙ sym (xor_assoc x (xor_all a) (xor_all b))

pub xor_all-one : (x : ℕ) → xor_all (x ∷ []) ≡ x
unfolding xor_all
xor_all-one x = xor_zero_r x

pub bit-xor_all : (t : ℕ) (l : List ℕ) → bit (xor_all l) t ≡ xor_all (table (length l) (λ i. bit (at l i) t))
unfolding xor_all table
bit-xor_all t [] = ap (λ (x : ℕ). x % 2) (zero-div (2 ^ t))
bit-xor_all t (x ∷ l) = bit-xor x (xor_all l) t ∙ ap (bit_xor (bit x t)) (bit-xor_all t l)

pub bit_xor_table : (n t : ℕ) (f : ℕ → ℕ) → bit (xor_all (table n f)) t ≡ xor_all (table n (λ i. bit (f i) t))
bit_xor_table n t f = bit-xor_all t (table n f) ∙ rw (length-table n f) (ap xor_all (table_same n _ _ (λ i l. ap (λ (x : ℕ). bit x t) (table_at n f i l))))

pub xor_all-zeros : (n : ℕ) (f : ℕ → ℕ) → ((i : ℕ) → f i ≡ 0) → xor_all (table n f) ≡ 0
unfolding xor_all table
xor_all-zeros zero f h = refl
xor_all-zeros (suc n) f h = rw (h 0, xor_all-zeros n (λ i. f (suc i)) (λ i. h (suc i)))

-- the XOR of numbers of k bits has k bits
pub xor_all_lt : (k : ℕ) (l : List ℕ) → EachBelow (2 ^ k) l → xor_all l < 2 ^ k
unfolding xor_all
xor_all_lt k [] h = pow_pos k
xor_all_lt k (x ∷ l) h = xor_lt k x (xor_all l) (h 0 (omega arith)) (xor_all_lt k l (λ i m. h (suc i) (suc-le-suc m)))

-- ---- bit by bit

-- the XOR of two numbers is that of their bits
from_xor : (k : ℕ) (f g : ℕ → ℕ) → AreBits f → AreBits g → from_bits k (λ j. bit_xor (f j) (g j)) ≡ bit_xor (from_bits k f) (from_bits k g)
unfolding from_bits
from_xor zero f g h l = refl
from_xor (suc k) f g h l =
    let a : ℕ = from_bits k (λ j. f (suc j)) in
    let b : ℕ = from_bits k (λ j. g (suc j)) in
    let c : f 0 + 2 * a ≡ a * 2 ^ 1 + f 0 = omega arith in
    let d : g 0 + 2 * b ≡ b * 2 ^ 1 + g 0 = omega arith in
    omega (arith, from_xor k (λ j. f (suc j)) (λ j. g (suc j)) (λ j. h (suc j)) (λ j. l (suc j)), xor_block 1 a b (f 0) (g 0) (h 0) (l 0), ap₂ bit_xor c d)

no_bits : (k : ℕ) → from_bits k (λ j. 0) ≡ 0
unfolding from_bits
no_bits zero = refl
no_bits (suc k) = omega (arith, no_bits k)

-- and so is that of n numbers
pub from_xor_all : (k n : ℕ) (f : ℕ → ℕ → ℕ) → ((i : ℕ) → AreBits (f i)) → xor_all (table n (λ i. from_bits k (f i))) ≡ from_bits k (λ j. xor_all (table n (λ i. f i j)))
unfolding xor_all table
from_xor_all k zero f h = sym (no_bits k)
from_xor_all k (suc n) f h =
    ap (bit_xor (from_bits k (f 0))) (from_xor_all k n (λ i. f (suc i)) (λ i. h (suc i)))
    ∙ sym (from_xor k (f 0) (λ j. xor_all (table n (λ i. f (suc i) j))) (h 0) (λ j. xor_all_lt 1 (table n (λ i. f (suc i) j)) (table_below 2 n _ (λ i l. h (suc i) j))))
