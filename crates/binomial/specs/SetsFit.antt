-- That a published parameter set passes checks 2 and 3, as one test over the whole table.
use Rattle.std.specs.Prelude.{Bool, true, ◌&&◌, List, [], ◌∷◌, ◌+◌, ◌*◌}
use Rattle.checks.specs.Checks.{string_length, modulus_at_least}
use Rattle.binomial.specs.declared.ParameterSet.{ParameterSet}

abbrev pub fits : ParameterSet → Bool
fits s = (string_length s.k).holds && (modulus_at_least (2 * s.k + 1) s.q).holds

abbrev pub every : List ParameterSet → Bool
every [] = true
every (s ∷ l) = fits s && every l
