-- Document 02's A.9 changed what is answered for no sample.
use Rattle.std.specs.Prelude.{◌≡◌, ℕ, ◌+◌, ◌*◌, ◌≤◌, ℤ, nat_abs}
use Rattle.std.proofs.Math.Path.{sym}
use Rattle.std.proofs.Common.{subst, ◌∙◌, arith}
use Rattle.residue.specs.Residue.{reduceℤ}
use Rattle.checks.specs.Laws.{same_answer}
use Rattle.binomial.specs.Signed.{centred}
use Rattle.binomial.specs.Half.{before, same_elsewhere, half_now}
use Rattle.binomial.proofs.Centring.{centred-sample}

-- for a sample z from -k to k, at any q of at least 2k + 1
pub sample-same : (k q : ℕ) → 2 * k + 1 ≤ q → 1 ≤ k → (z : ℤ) → nat_abs z ≤ k → before q (reduceℤ q z) ≡ centred q (reduceℤ q z)
sample-same k q h p z l =
    same_elsewhere q (reduceℤ q z) (λ s.
    let e = same_answer (sym (half_now q (reduceℤ q z) s) ∙ centred-sample k q h p z l) in
    let m : reduceℤ q z ≤ k = subst (λ (y : ℤ). nat_abs y ≤ k) (sym e) l in
    omega (arith, s))
