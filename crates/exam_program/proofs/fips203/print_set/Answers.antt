-- Every published set has a k from 1 to 16.
use Rattle.std.proofs.Common.{◌≡◌, ◌≤◌, ℕ, sym}
use Rattle.binomial.specs.Sets.{parameter_set}
use Rattle.binomial.proofs.SetsFit.{sets-fit}
use Rattle.binomial.specs.declared.ParameterSet.{ParameterSet}
use Rattle.checks.specs.Checks.{accepted}
use Rattle.checks.specs.Laws.{within_true}
use Rattle.exam_program.proofs.fips203.print_set.Goals as goal

string-length : (number : ℕ) (s : ParameterSet) → parameter_set number ≡ accepted s → (1 ≤ s.k) × (s.k ≤ 16)
string-length number s e = within_true 1 16 s.k (sets-fit number s e).0

pub distribution-requires-clause-low : goal.distribution-requires-clause-low
distribution-requires-clause-low g c = (string-length c.args.number c.in-Ok.s (sym c.in-Ok.ensures)).0

pub distribution-requires-clause-high : goal.distribution-requires-clause-high
distribution-requires-clause-high g c = (string-length c.args.number c.in-Ok.s (sym c.in-Ok.ensures)).1
