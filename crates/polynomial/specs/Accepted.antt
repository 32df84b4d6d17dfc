-- What it means, in plain facts, that a call passes its checks.
use Rattle.std.specs.Prelude.{◌≡◌, true, List, ℕ, ◌*◌, ◌^◌, ◌≤◌, ◌<◌, length, is_none}
use Rattle.std.proofs.Common.{ap, arith, eqb-true, eq-eqb}
use Rattle.std.proofs.Math.Nat as N
use Rattle.buffers.specs.Positions.{block}
use Rattle.buffers.specs.Blocks.{block-fits, length-block, block-below}
use Rattle.checks.specs.Search.{first_not_below}
use Rattle.checks.specs.Laws.{Hold, within_true, none-each-below, each-below-none}
use Rattle.sampler.specs.Sampler.{pair_checks}
use Rattle.sampler.specs.Accepted.{Small, small, SharedPair, shared_pair, words-some, fit-first}
use Rattle.polynomial.specs.Polynomial.{polynomial_words, strings_checks, polynomial_checks}

-- m pairs of strings of k bits, each in n shares
pub record SharedStrings (n k q m : ℕ) (x y : List ℕ) : Type 0 where
  pub some : 0 < m
  pub most : m ≤ 256
  pub x-count : length x ≡ m * n
  pub y-count : length y ≡ m * n
  pub coefficient : (t : ℕ) → t < m → Hold (pair_checks n k q (block n t x) (block n t y))

-- what each of them says of n, k and q
pub first-pair : {n k q m : ℕ} {x y : List ℕ} → SharedStrings n k q m x y → SharedPair n k q (block n 0 x) (block n 0 y)
first-pair {n} {k} {q} {m} {x} {y} S = shared_pair n k q (block n 0 x) (block n 0 y) (S.coefficient 0 S.some)

pub polynomial_some : {n k q m : ℕ} {x y : List ℕ} → SharedStrings n k q m x y → 0 < polynomial_words n k m
polynomial_some S = omega (arith, N.mul-le-mul S.some (words-some (first-pair S)))

-- the numbers that the code computes are small
pub record SmallPolynomial (n k m : ℕ) : Type 0 where
  pub sample : Small n k
  pub shares : m * n ≤ 2048
  pub bits : m * (2 * k) ≤ 8192
  pub words : polynomial_words n k m ≤ 458752

pub small_polynomial : {n k q m : ℕ} {x y : List ℕ} → SharedStrings n k q m x y → SmallPolynomial n k m
small_polynomial S =
    let p = first-pair S in
    let s = small _ _ p.eight p.sixteen in
    record { sample = s; shares = N.mul-le-mul S.most p.eight; bits = N.mul-le-mul S.most s.bits; words = N.mul-le-mul S.most s.words }

module _ (n k q m : ℕ) (x y : List ℕ) where
  pub shared_strings : Hold (strings_checks n k q m x y) → SharedStrings n k q m x y
  shared_strings h =
      record {
        some = (within_true 1 256 m h.1.1.1.0).0;
        most = (within_true 1 256 m h.1.1.1.0).1;
        x-count = x_exact;
        y-count = y_exact;
        coefficient = λ t l. (h.0, (h.1.0, (h.1.1.0, (eq-eqb _ _ (block_exact x x_exact t l), (eq-eqb _ _ (block_exact y y_exact t l), (block-narrow x h.1.1.1.1.1.1.0 t, (block-narrow y h.1.1.1.1.1.1.1.0 t, tt)))))));
      }
    where
      x_exact : length x ≡ m * n
      x_exact = eqb-true _ _ h.1.1.1.1.0

      y_exact : length y ≡ m * n
      y_exact = eqb-true _ _ h.1.1.1.1.1.0

      block_exact : (l : List ℕ) → length l ≡ m * n → (t : ℕ) → t < m → length (block n t l) ≡ n
      block_exact l e t g = length-block n l t (omega (arith, e, block-fits n g))

      block-narrow : (l : List ℕ) → is_none (first_not_below (2 ^ k) l) ≡ true → (t : ℕ) → is_none (first_not_below (2 ^ k) (block n t l)) ≡ true
      block-narrow l e t = ap is_none (each-below-none (2 ^ k) (block n t l) 0 (block-below n l (2 ^ k) t (none-each-below (2 ^ k) l 0 e)))

  pub call-strings : (words out work : List ℕ) → Hold (polynomial_checks n k q m x y words (length out) (length work)) → SharedStrings n k q m x y
  call-strings words out work h = shared_strings (fit-first (strings_checks n k q m x y) 0 (polynomial_words n k m) q words (m * n) n out work h)
