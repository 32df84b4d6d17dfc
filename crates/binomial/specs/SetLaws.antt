-- What a look at the table of published sets says.
use Rattle.std.specs.Prelude.{◌≡◌, refl, List, ◌++◌, ℕ}
use Rattle.checks.specs.Checks.{Check, accepted, refused, checked}
use Rattle.checks.specs.Laws.{Hold, accepts, accepted-holds, refuses}
use Rattle.binomial.specs.declared.ParameterSet.{ParameterSet}
use Rattle.binomial.specs.Sets.{set, sets, set_checks, parameter_set}

-- of check 22
pub set_there : (number : ℕ) (s : ParameterSet) → parameter_set number ≡ accepted s → Hold (set_checks number)
unfolding parameter_set
set_there number s = accepted-holds _ s (set_checks number)

pub set-refused : (number code position : ℕ) → parameter_set number ≡ refused code position → (cs : List Check) → checked (set_checks number ++ cs) ≡ refused code position
unfolding parameter_set
set-refused number code position e cs = refuses _ tt code position (set_checks number) cs e

-- of the sets of ML-KEM
pub set_1 : parameter_set 1 ≡ accepted (set 2 3329)
unfolding parameter_set sets
set_1 = accepts (set 2 3329) (set_checks 1) (refl, tt)

pub set_2 : parameter_set 2 ≡ accepted (set 3 3329)
unfolding parameter_set sets
set_2 = accepts (set 3 3329) (set_checks 2) (refl, tt)
