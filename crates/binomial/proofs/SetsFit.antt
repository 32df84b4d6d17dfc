-- Every published parameter set passes checks 2 and 3, by one test that is computed over the whole table.
use Rattle.std.specs.Prelude.{◌≡◌, refl, true, List, [], ◌∷◌, ℕ, zero, suc, ◌+◌, ◌*◌, ◌-◌, ◌<◌, ◌≤◌, length, get_or}
use Rattle.std.proofs.Common.{sym, ◌∙◌, not-suc-le-zero, le_of_suc-le-suc}
use native.Mathlib.Omega.{arith}
use Rattle.checks.specs.Checks.{accepted, string_length, modulus_at_least}
use Rattle.checks.specs.Laws.{Hold, accepts, accepted-holds, within_true, and_true}
use Rattle.binomial.specs.declared.ParameterSet.{ParameterSet}
use Rattle.binomial.specs.Sets.{set, sets, set_checks, parameter_set}
use Rattle.binomial.specs.SetsFit.{fits, every}

-- the test
pub all_fit : every sets ≡ true
unfolding sets
all_fit = refl

-- and what it says of each entry
every-at : (l : List ParameterSet) → every l ≡ true → (d : ParameterSet) (i : ℕ) → i < length l → fits (get_or l i d) ≡ true
every-at [] e d i h = absurd (not-suc-le-zero h)
every-at (s ∷ l) e d zero h = (and_true (fits s) (every l) e).0
every-at (s ∷ l) e d (suc i) h = every-at l (and_true (fits s) (every l) e).1 d i (le_of_suc-le-suc h)

pub sets-fit : (number : ℕ) (s : ParameterSet) → parameter_set number ≡ accepted s → Hold (string_length s.k ∷ modulus_at_least (2 * s.k + 1) s.q ∷ [])
unfolding parameter_set
sets-fit number s e =
    let h = accepted-holds (get_or sets (number - 1) (set 0 0)) s (set_checks number) e in
    let a = sym (accepts (get_or sets (number - 1) (set 0 0)) (set_checks number) h) ∙ e in
    let same : get_or sets (number - 1) (set 0 0) ≡ s = cc in
    let f = and_true (string_length s.k).holds (modulus_at_least (2 * s.k + 1) s.q).holds (rw (← same) (every-at sets all_fit (set 0 0) (number - 1) (entry number (within_true 1 7 number h.0)))) in
    (f.0, (f.1, tt))
  where
    entry : (number : ℕ) → (1 ≤ number) × (number ≤ 7) → number - 1 < length sets
    entry number b = unfold sets in omega arith
