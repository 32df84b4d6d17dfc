-- Laws of the arithmetic modulo q: those of a commutative ring, up to reducing. Only what cancels a negative asks that q is not 0.
use Rattle.std.specs.Prelude.{◌≡◌, ℕ, zero, suc, ◌+◌, ◌-◌, ◌*◌, ◌/◌, ◌%◌, ◌≤◌, ◌<◌}
use Rattle.std.proofs.Math.Path.{refl, sym, ap}
use Rattle.std.proofs.Common.{◌∙◌, div-add-mod'}
use Rattle.std.proofs.Math.Nat as N
use Rattle.std.proofs.Math.Nat.{mod-lt, mod-eq_of_lt, mod-mod, mod-add-mod, add-mod-mod, add-mod_right, mod_self, zero-mod, add-mul-mod_self_right}
use Rattle.std.proofs.Math.Decide.{dec_lt}
use native.Mathlib.Omega.{arith}
use Rattle.residue.specs.Residue.{reduce, add, mul, neg, sub}

-- equal operands, and an equal modulus
pub add_cong : {q r a b c d : ℕ} → q ≡ r → a ≡ b → c ≡ d → add q a c ≡ add r b d
add_cong e f g = rw (e, f, g)

pub sub_cong : {q r a b c d : ℕ} → q ≡ r → a ≡ b → c ≡ d → sub q a c ≡ sub r b d
sub_cong e f g = rw (e, f, g)

module _ (q : ℕ) where
  -- ---- reducing

  pub reduce-small : {a : ℕ} → a < q → reduce q a ≡ a
  unfolding reduce
  reduce-small h = mod-eq_of_lt h

  pub reduce_zero : reduce q 0 ≡ 0
  unfolding reduce
  reduce_zero = zero-mod q

  pub reduce-reduce : (a : ℕ) → reduce q (reduce q a) ≡ reduce q a
  unfolding reduce
  reduce-reduce a = mod-mod a q

  pub reduce-modulus_plus : (a : ℕ) → reduce q (q + a) ≡ reduce q a
  unfolding reduce
  reduce-modulus_plus a = rw N.add_comm (add-mod_right a q)

  -- the sum is that of the numbers, reduced
  pub reduce_plus : (a b : ℕ) → reduce q (a + b) ≡ add q a b
  unfolding reduce add
  reduce_plus a b = refl

  pub reduce-add : (a b : ℕ) → reduce q (add q a b) ≡ add q a b
  unfolding reduce add
  reduce-add a b = mod-mod (a + b) q

  pub reduce-neg : (a : ℕ) → reduce q (neg q a) ≡ neg q a
  unfolding reduce neg
  reduce-neg a = mod-mod (q - a % q) q

  -- an operand may be reduced
  pub add-reduce-left : (a b : ℕ) → add q (reduce q a) b ≡ add q a b
  unfolding reduce add
  add-reduce-left a b = mod-add-mod a q b

  pub add-reduce_right : (a b : ℕ) → add q a (reduce q b) ≡ add q a b
  unfolding reduce add
  add-reduce_right a b = add-mod-mod a b q

  pub neg-reduce : (a : ℕ) → neg q (reduce q a) ≡ neg q a
  unfolding reduce neg
  neg-reduce a = rw mod-mod

  pub mul-reduce : (c a : ℕ) → mul q c (reduce q a) ≡ mul q c a
  unfolding reduce mul
  mul-reduce c a =
      let e : c * a ≡ c * (a % q) + c * (a / q) * q = omega (arith, ap (λ (z : ℕ). c * z) (div-add-mod' a q)) in
      sym (ap (λ (z : ℕ). z % q) e ∙ add-mul-mod_self_right (c * (a % q)) (c * (a / q)) q)

  -- ---- sums

  pub add_comm : (a b : ℕ) → add q a b ≡ add q b a
  unfolding add
  add_comm a b = ap (λ (z : ℕ). z % q) (omega arith)

  pub add_assoc : (a b c : ℕ) → add q (add q a b) c ≡ add q a (add q b c)
  unfolding add
  add_assoc a b c = simp (mod-add-mod, add-mod-mod) (ap (λ (z : ℕ). z % q) (omega arith))

  pub add_left_comm : (a b c : ℕ) → add q a (add q b c) ≡ add q b (add q a c)
  add_left_comm a b c = rw (← add_assoc a b c, ← add_assoc b a c, add_comm a b)

  pub zero_add : (a : ℕ) → add q 0 a ≡ reduce q a
  unfolding reduce add
  zero_add a = ap (λ (z : ℕ). z % q) (omega arith)

  pub add_zero : (a : ℕ) → add q a 0 ≡ reduce q a
  add_zero a = add_comm a 0 ∙ zero_add a

  -- the difference, without a negative
  pub sub_plus : (a b : ℕ) → b ≤ q → sub q a b ≡ reduce q (a + (q - b))
  unfolding reduce add neg
  sub_plus a b h = go (dec_lt b q)
    where
      go : Dec (b < q) → (a + (q - b % q) % q) % q ≡ (a + (q - b)) % q
      go (yes l) = rw (mod-eq_of_lt l, add-mod-mod)
      go (no g) =
          let e : b ≡ q = omega arith in
          rw (e, mod_self q, add-mod-mod) (ap (λ (z : ℕ). z % q) (omega arith) ∙ add-mod_right a q ∙ ap (λ (z : ℕ). z % q) (omega arith))

  -- q less b, taken off
  pub sub_complement : (a b : ℕ) → b ≤ q → sub q a (q - b) ≡ add q a b
  sub_complement a b h =
      let e : q - (q - b) ≡ b = omega arith in
      sub_plus a (q - b) (omega arith) ∙ ap (λ (c : ℕ). reduce q (a + c)) e ∙ reduce_plus a b

  pub sub-reduce : (a b : ℕ) → sub q (reduce q a) (reduce q b) ≡ sub q a b
  sub-reduce a b = rw (neg-reduce, add-reduce-left)

  -- q less, and the sum stays
  pub sub-modulus : (a b : ℕ) → sub q (a + b) q ≡ add q a b
  sub-modulus a b = sub_plus (a + b) q (omega arith) ∙ ap (reduce q) (omega arith) ∙ reduce_plus a b

  -- ---- products

  -- a product of numbers, taken in two steps
  pub mul_times : (a b c : ℕ) → mul q (a * b) c ≡ mul q a (mul q b c)
  unfolding mul
  mul_times a b c = sym (unfold reduce in (mul-reduce a (b * c)) ∙ ap (λ (z : ℕ). z % q) (omega arith))

  pub mul-add : (c a b : ℕ) → mul q c (add q a b) ≡ add q (mul q c a) (mul q c b)
  unfolding add mul
  mul-add c a b = unfold reduce in (mul-reduce c (a + b) ∙ simp (mod-add-mod, add-mod-mod) (ap (λ (z : ℕ). z % q) (omega arith)))

  pub one-mul : (a : ℕ) → mul q 1 a ≡ reduce q a
  unfolding reduce mul
  one-mul a = ap (λ (z : ℕ). z % q) (omega arith)

  -- a product with a bit is below q as it stands
  pub bit_times : (a b : ℕ) → a < q → b < 2 → a * b < q
  bit_times a zero h l = omega arith
  bit_times a (suc zero) h l = omega arith
  bit_times a (suc (suc b)) h l = absurd (omega arith)

  pub mul_small : (a b : ℕ) → a * b < q → mul q a b ≡ a * b
  unfolding mul
  mul_small a b h = mod-eq_of_lt h

  pub mul_zero : (c : ℕ) → mul q c 0 ≡ 0
  unfolding mul
  mul_zero c = ap (λ (z : ℕ). z % q) (omega arith) ∙ zero-mod q

  -- ---- negatives

  pub neg_small : (a : ℕ) → 0 < a → a < q → neg q a ≡ q - a
  unfolding neg
  neg_small a h l =
      let m : q - a < q = omega arith in
      rw (mod-eq_of_lt l) (mod-eq_of_lt m)

  module _ (pos : 0 < q) where
    pub reduce_lt : (a : ℕ) → reduce q a < q
    unfolding reduce
    reduce_lt a = mod-lt a pos

    pub add_lt : (a b : ℕ) → add q a b < q
    add_lt a b = rw (← reduce_plus a b) (reduce_lt (a + b))

    pub mul_lt : (a b : ℕ) → mul q a b < q
    unfolding mul
    mul_lt a b = mod-lt (a * b) pos

    pub add-neg : (a : ℕ) → add q a (neg q a) ≡ 0
    unfolding add neg
    add-neg a =
        let l : a % q < q = mod-lt a pos in
        simp add-mod-mod (sym (mod-add-mod a q (q - a % q)) ∙ ap (λ (z : ℕ). z % q) (omega arith) ∙ mod_self q)

    -- the negative is the one reduced number whose sum with a is 0
    pub neg_unique : (a b : ℕ) → add q a b ≡ 0 → neg q a ≡ reduce q b
    neg_unique a b e =
        sym (rw (← zero_add b, ← add-neg a, add_comm a (neg q a), add_assoc, e, add_zero) (reduce-neg a))

    pub neg_zero : neg q 0 ≡ 0
    neg_zero = neg_unique 0 0 (rw zero_add reduce_zero) ∙ reduce_zero

    pub neg-neg : (a : ℕ) → neg q (neg q a) ≡ reduce q a
    neg-neg a = neg_unique (neg q a) a (rw add_comm (add-neg a))

    pub neg-add : (a b : ℕ) → neg q (add q a b) ≡ add q (neg q a) (neg q b)
    neg-add a b =
        neg_unique (add q a b) (add q (neg q a) (neg q b)) (simp (add_assoc, add_left_comm b (neg q a), add-neg, add_zero, reduce-neg))
        ∙ reduce-add (neg q a) (neg q b)

    -- ---- differences

    -- the same added to both sides
    pub sub-shift : (a b c : ℕ) → sub q (add q a c) (add q b c) ≡ sub q a b
    sub-shift a b c = rw (neg-add, add_assoc, add_left_comm c (neg q b), add-neg, add_zero, reduce-neg)

    -- what is taken off comes back, and the other way round
    pub add-sub : (a b : ℕ) → add q a (sub q b a) ≡ reduce q b
    add-sub a b = rw (add_left_comm, add-neg, add_zero)

    pub sub-add : (a b : ℕ) → add q (sub q a b) b ≡ reduce q a
    sub-add a b = add_comm (sub q a b) b ∙ add-sub b a

    pub add_sub_cancel : (a b : ℕ) → sub q (add q a b) b ≡ reduce q a
    add_sub_cancel a b = rw (add_assoc, add-neg, add_zero)

    -- the difference is the one number below q whose sum with b is a
    pub sub_unique : (a b d : ℕ) → d < q → reduce q (d + b) ≡ reduce q a → d ≡ sub q a b
    sub_unique a b d h e = sym (rw (← add-reduce-left a, ← e, reduce_plus, add_sub_cancel) (reduce-small h))

    pub neg-sub : (a b : ℕ) → neg q (sub q a b) ≡ sub q b a
    neg-sub a b = rw (neg-add, neg-neg, add-reduce_right) (add_comm (neg q a) b)

    pub sub_zero : (a : ℕ) → sub q a 0 ≡ reduce q a
    sub_zero a = rw neg_zero (add_zero a)
