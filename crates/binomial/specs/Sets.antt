-- The published parameter sets (document 01): 1 and 2 ML-KEM (FIPS 203), 3 and 4 NewHope, 5 to 7 the Saber family.
use Rattle.std.specs.Prelude.{List, [], ◌∷◌, ℕ, ◌-◌, get_or}
use Rattle.checks.specs.Checks.{Check, Verdict, verdict, within}
use Rattle.binomial.specs.declared.ParameterSet.{ParameterSet}

abbrev pub set : ℕ → ℕ → ParameterSet
set k q = record { k = k; q = q }

unfoldable pub sets : List ParameterSet
sets = set 2 3329 ∷ set 3 3329 ∷ set 8 12289 ∷ set 16 12289 ∷ set 5 8192 ∷ set 4 8192 ∷ set 3 8192 ∷ []

abbrev pub set_checks : ℕ → List Check
set_checks number = record { holds = within 1 7 number; code = 22; position = 0 } ∷ []

-- sets are counted from 1
unfoldable pub parameter_set : ℕ → Verdict ParameterSet
parameter_set number = verdict (set_checks number) (get_or sets (number - 1) (set 0 0))
