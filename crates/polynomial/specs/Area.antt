-- What the call of version 2 accepted, which asked for 2kn work positions, the call that asks for n accepts too (document 02, A.6).
use Rattle.std.specs.Prelude.{◌≡◌, List, ◌++◌, ◌≢◌, ℕ, ◌*◌, ◌≤◌, length}
use Rattle.std.proofs.Math.Path.{refl}
use Rattle.checks.specs.Checks.{Outcome, accepted, refused, buffer_checks}
use Rattle.sampler.specs.Sampler.{Buffers, shares_written}
use Rattle.sampler.proofs.Area.{area-accepted, area_turned_down, area-refused, area_smaller}
use Rattle.polynomial.specs.Polynomial.{polynomial_shares, polynomial_words, strings_checks, sampled_polynomial}
use Rattle.polynomial.specs.Accepted.{first-pair, shared_strings}

module _ (n k q m : ℕ) (x y words out work : List ℕ) where
  abbrev before : Outcome ℕ Buffers
  before =
      shares_written (strings_checks n k q m x y ++ buffer_checks 0 (polynomial_words n k m) q words (m * n) (length out) (2 * k * n) (length work)) (polynomial_words n k m) (polynomial_shares n k q m x y words) (2 * k * n) out work

  abbrev now : Outcome ℕ Buffers
  now = sampled_polynomial n k q m x y words out work

  pub accepted-before : (answer : ℕ) → before.answer ≡ accepted answer → (now.answer ≡ before.answer) × (now.buffers.out ≡ before.buffers.out)
  unfolding sampled_polynomial
  accepted-before =
      area-accepted (strings_checks n k q m x y) 0 (polynomial_words n k m) q (m * n) words (polynomial_words n k m) (polynomial_shares n k q m x y words) out work (2 * k * n) n
      (λ h. area_smaller (first-pair (shared_strings n k q m x y h)))

  pub turned_down_before : (position : ℕ) → before.answer ≡ refused 11 position → n ≤ length work → now.answer ≡ accepted (polynomial_words n k m)
  unfolding sampled_polynomial
  turned_down_before position =
      area_turned_down (strings_checks n k q m x y) 0 (polynomial_words n k m) q (m * n) words (polynomial_words n k m) (polynomial_shares n k q m x y words) out work (2 * k * n) n position refl

  pub refused-before : (code position : ℕ) → code ≢ 11 → (before.answer ≡ refused code position → now.answer ≡ refused code position) × (now.answer ≡ refused code position → before.answer ≡ refused code position)
  unfolding sampled_polynomial
  refused-before = area-refused (strings_checks n k q m x y) 0 (polynomial_words n k m) q (m * n) words (polynomial_words n k m) (polynomial_shares n k q m x y words) out work (2 * k * n) n
