-- What a C caller is given: the structs of include/tinplateau.h for each verdict of document 01. Code 0 says that the call is accepted.
use Rattle.std.specs.Prelude.{ℕ, ℤ, pos}
use Rattle.checks.specs.Checks.{Verdict, accepted, refused, Outcome}
use Rattle.binomial.specs.declared.ParameterSet.{ParameterSet}
use Rattle.capi.specs.declared.answers.TpAnswer.{TpAnswer}
use Rattle.capi.specs.declared.answers.TpOpenedString.{TpOpenedString}
use Rattle.capi.specs.declared.answers.TpOpenedResidue.{TpOpenedResidue}
use Rattle.capi.specs.declared.answers.TpSigned.{TpSigned}
use Rattle.capi.specs.declared.answers.TpParameters.{TpParameters}

abbrev pub answer_of : Verdict ℕ → TpAnswer
answer_of (accepted count) = record { code = 0; value = count }
answer_of (refused code position) = record { code = code; value = position }

abbrev pub string_of : Verdict ℕ → TpOpenedString
string_of (accepted s) = record { code = 0; position = 0; opened = record { bits = s } }
string_of (refused code position) = record { code = code; position = position; opened = record { bits = 0 } }

abbrev pub residue_of : Verdict ℕ → TpOpenedResidue
residue_of (accepted r) = record { code = 0; position = 0; opened = record { value = r } }
residue_of (refused code position) = record { code = code; position = position; opened = record { value = 0 } }

abbrev pub signed_of : Verdict ℤ → TpSigned
signed_of (accepted z) = record { code = 0; position = 0; value = z }
signed_of (refused code position) = record { code = code; position = position; value = pos 0 }

abbrev pub parameters_of : Verdict ParameterSet → TpParameters
parameters_of (accepted s) = record { code = 0; k = s.k; q = s.q }
parameters_of (refused code position) = record { code = code; k = 0; q = 0 }

-- the struct that a call returns, and what its buffers hold after it
pub record Returned (B : Type 0) : Type 0 where
  pub answer : TpAnswer
  pub buffers : B

abbrev pub returned : {B : Type 0} → TpAnswer → B → Returned B
returned a after = record { answer = a; buffers = after }

-- what an outcome is for C
abbrev pub answered : {B : Type 0} → Outcome ℕ B → Returned B
answered o = returned (answer_of o.answer) o.buffers
