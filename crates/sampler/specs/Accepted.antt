-- What it means, in plain facts, that a call passes its checks.
use Rattle.std.specs.Prelude.{◌≡◌, List, [], ◌∷◌, ◌++◌, ℕ, ◌+◌, ◌-◌, ◌*◌, ◌^◌, ◌≤◌, ◌<◌, length}
use Rattle.std.proofs.Math.Nat as N
use Rattle.std.proofs.Common.{arith, leb-true, le-leb, eqb-true}
use Rattle.residue.specs.Residue.{EachBelow}
use Rattle.checks.specs.Checks.{Check, at_least, buffer_checks}
use Rattle.checks.specs.Laws.{Hold, hold-front, within_true, none-each-below}
use Rattle.conversion.specs.Conversion.{bit_words}
use Rattle.conversion.proofs.Laws.{bit_words-some}
use Rattle.conversion.specs.Arrays.{Drawn}
use Rattle.conversion.specs.Accepted as output
use Rattle.totals.specs.Sample.{sample_words}
use Rattle.sampler.specs.Sampler.{pair_checks, sample_checks}
use Rattle.sampler.specs.Secrecy.{Room}

-- the numbers that the code computes are small
pub record Small (n k : ℕ) : Type 0 where
  pub bits : 2 * k ≤ 32
  pub per : bit_words n ≤ 56
  pub words : sample_words n k ≤ 1792

pub small : (n k : ℕ) → n ≤ 8 → k ≤ 16 → Small n k
small n k h l =
    let b : 2 * k ≤ 32 = omega arith in
    let m : n - 1 ≤ 7 = omega arith in
    let p : bit_words n ≤ 56 = N.mul-le-mul h m in
    record { bits = b; per = p; words = N.mul-le-mul b p }

-- two strings of k bits, each in n shares
pub record SharedPair (n k q : ℕ) (x y : List ℕ) : Type 0 where
  pub two : 2 ≤ n
  pub eight : n ≤ 8
  pub one : 1 ≤ k
  pub sixteen : k ≤ 16
  pub modulus : 2 * k + 1 ≤ q
  pub x-count : length x ≡ n
  pub y-count : length y ≡ n
  pub x-narrow : EachBelow (2 ^ k) x
  pub y-narrow : EachBelow (2 ^ k) y

pub pair-large : {n k q : ℕ} {x y : List ℕ} → SharedPair n k q x y → 2 < q
pair-large P = omega (arith, P.one, P.modulus)

pub words-some : {n k q : ℕ} {x y : List ℕ} → SharedPair n k q x y → 0 < sample_words n k
words-some {n} {k} P =
    let b : 1 ≤ 2 * k = omega (arith, P.one) in
    omega (arith, N.mul-le-mul b (bit_words-some n P.two))

-- Words and room, of a call that puts the checks `first` before those of its buffers, and asks for `count` words from `start` on and for room
-- for so many shares and zeros.
module _ (first : List Check) (start count q : ℕ) (words : List ℕ) (shares zeros : ℕ) (out work : List ℕ) where
  abbrev buffers : List Check
  buffers = buffer_checks start count q words shares (length out) zeros (length work)

  -- 11
  abbrev area : List Check
  area = at_least 11 zeros (length work) ∷ []

  pub fit-first : Hold (first ++ buffers) → Hold first
  fit-first h = hold-front first buffers h

  pub fit_drawn : Hold (first ++ buffers) → Drawn q start count words
  fit_drawn h = output.fit_drawn first start count q words shares (length out) area h

  pub fit-room : Hold (first ++ buffers) → Room shares zeros out work
  fit-room h = (output.fit-room first start count q words shares (length out) area h, leb-true _ _ (output.fit-rest first start count q words shares (length out) area h).0)

  -- with enough words below q, and room, it is accepted where its first checks hold
  pub fit-holds : Hold first → Drawn q start count words → Room shares zeros out work → Hold (first ++ buffers)
  fit-holds h d r = output.fit-holds first start count q words shares (length out) area h d r.0 (le-leb _ _ r.1, tt)

module _ (n k q : ℕ) (x y : List ℕ) where
  pub shared_pair : Hold (pair_checks n k q x y) → SharedPair n k q x y
  shared_pair h =
      record {
        two = (within_true 2 8 n h.0).0;
        eight = (within_true 2 8 n h.0).1;
        one = (within_true 1 16 k h.1.0).0;
        sixteen = (within_true 1 16 k h.1.0).1;
        modulus = leb-true _ _ h.1.1.0;
        x-count = eqb-true _ _ h.1.1.1.0;
        y-count = eqb-true _ _ h.1.1.1.1.0;
        x-narrow = none-each-below (2 ^ k) x 0 h.1.1.1.1.1.0;
        y-narrow = none-each-below (2 ^ k) y 0 h.1.1.1.1.1.1.0;
      }

  pub call-checks : (words : List ℕ) (start : ℕ) (out work : List ℕ) → Hold (sample_checks n k q x y words start (length out) (length work)) → Hold (pair_checks n k q x y)
  call-checks words start out work h = fit-first (pair_checks n k q x y) start (sample_words n k) q words n n out work h
