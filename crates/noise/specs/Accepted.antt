-- What it means, in plain facts, that a call passes its checks.
use Rattle.std.specs.Prelude.{◌≡◌, List, ℕ, zero, suc, ◌*◌, ◌≤◌, length}
use Rattle.std.proofs.Common.{sym, ap, ◌∙◌, arith, eqb-true, leb-true}
use Rattle.checks.specs.Checks.{accepted}
use Rattle.checks.specs.Laws.{Hold, within_true}
use Rattle.binomial.specs.declared.ParameterSet.{ParameterSet}
use Rattle.binomial.specs.Sets.{set, parameter_set}
use Rattle.binomial.specs.SetLaws.{set_1, set_2}
use Rattle.noise.specs.Split.{or_none, set_of, noise_checks}

-- sets 1 and 2 are published, and have strings of 2 or 3 bits
pub record NoiseSet (number : ℕ) : Type 0 where
  pub published : parameter_set number ≡ accepted (set_of number)
  pub two : 2 ≤ (set_of number).k
  pub three : (set_of number).k ≤ 3

module _ (number : ℕ) (s : ParameterSet) (e : parameter_set number ≡ accepted s) (two : 2 ≤ s.k) (three : s.k ≤ 3) where
  of-set : NoiseSet number
  of-set =
      let same : set_of number ≡ s = ap (λ v. or_none v) e in
      record { published = e ∙ ap accepted (sym same); two = rw same two; three = rw same three }

noise-set : (number : ℕ) → 1 ≤ number → number ≤ 2 → NoiseSet number
noise-set zero h l = absurd (omega arith)
noise-set (suc zero) h l = of-set 1 (set 2 3329) set_1 (omega arith) (omega arith)
noise-set (suc (suc zero)) h l = of-set 2 (set 3 3329) set_2 (omega arith) (omega arith)
noise-set (suc (suc (suc number))) h l = absurd (omega arith)

pub record Noise (n number : ℕ) (bytes x y : List ℕ) : Type 0 where
  pub eight : n ≤ 8
  pub of : NoiseSet number
  pub count : length bytes ≡ n * (64 * (set_of number).k)
  pub x-room : 256 * n ≤ length x
  pub y-room : 256 * n ≤ length y

pub noise : (n number : ℕ) (bytes x y : List ℕ) → Hold (noise_checks n number bytes (length x) (length y)) → Noise n number bytes x y
noise n number bytes x y h =
    let s = within_true 1 2 number h.1.1.0 in
    record {
      eight = (within_true 2 8 n h.0).1;
      of = noise-set number s.0 s.1;
      count = eqb-true _ _ h.1.1.1.0;
      x-room = leb-true _ _ h.1.1.1.1.0;
      y-room = leb-true _ _ h.1.1.1.1.1.0;
    }
