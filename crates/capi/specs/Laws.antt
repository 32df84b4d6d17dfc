-- What a call gives C, from what it gives its caller in Rattle.
use Rattle.std.specs.Prelude.{◌≡◌, ℕ, Result}
use Rattle.std.proofs.Common.{ap, ◌∙◌}
use Rattle.checks.specs.Checks.{Outcome}
use Rattle.checks.specs.declared.Refusal.{Refusal}
use Rattle.checks.specs.Answers.{reading, outcome}
use Rattle.capi.specs.declared.answers.TpAnswer.{TpAnswer}
use Rattle.capi.specs.Structs.{answer_of, returned, answered}

pub answered_by : {B : Type 0} (a : Result ℕ Refusal) (r : TpAnswer) (b : B) (o : Outcome ℕ B) → r ≡ answer_of (reading a) → outcome a b ≡ o → returned r b ≡ answered o
answered_by a r b o s e = ap (λ r. returned r b) s ∙ ap answered e
