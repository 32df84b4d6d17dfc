-- Arithmetic modulo q. Every operation reduces its result, so that its laws hold for all operands, below q or not.
use Rattle.std.specs.Prelude.{cond, List, [], ◌∷◌, ℕ, zero, suc, ◌+◌, ◌-◌, ◌*◌, ◌%◌, ◌<◌, eqb, ℤ, pos, negsuc, length, get_or}

-- the sum of a list of numbers, not reduced
unfoldable pub total : List ℕ → ℕ
total [] = 0
total (a ∷ l) = a + total l

module _ (q : ℕ) where
  unfoldable pub reduce : ℕ → ℕ
  reduce a = a % q

  unfoldable pub add : ℕ → ℕ → ℕ
  add a b = (a + b) % q

  unfoldable pub mul : ℕ → ℕ → ℕ
  mul a b = a * b % q

  unfoldable pub neg : ℕ → ℕ
  neg a = (q - a % q) % q

  abbrev pub sub : ℕ → ℕ → ℕ
  sub a b = add a (neg b)

  -- a − b, or b − a where `swap` is 1
  abbrev pub cswap_sub : ℕ → ℕ → ℕ → ℕ
  cswap_sub swap a b = cond (eqb swap 0) (sub a b) (sub b a)

  -- f 0 + .. + f (n - 1)
  unfoldable pub sum : ℕ → (ℕ → ℕ) → ℕ
  sum zero f = 0
  sum (suc n) f = add (f zero) (sum n (λ i. f (suc i)))

  -- an integer modulo q
  unfoldable pub reduceℤ : ℤ → ℕ
  reduceℤ (pos a) = reduce a
  reduceℤ (negsuc a) = neg (suc a)

  -- each number of the list is below q
  abbrev pub EachBelow : List ℕ → Type 0
  EachBelow l = (i : ℕ) → i < length l → get_or l i 0 < q
