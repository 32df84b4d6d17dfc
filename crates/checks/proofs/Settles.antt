-- What a call learns from its checks.
use Rattle.std.specs.Prelude.{◌≡◌, List, ◌++◌, Result, Ok, Err, IsErrAnd}
use Rattle.std.proofs.Math.Path.{ap}
use Rattle.std.proofs.Common.{sym, ◌∙◌}
use Rattle.checks.specs.Checks.{Check, Verdict, accepted, refused, verdict, checked, settled}
use Rattle.checks.specs.Answers.{reading_by, reading, outcome}
use Rattle.checks.specs.Laws.{Hold, accepted-holds, accepts, refuses-alike, passes-part, refuses, settled-accepted}
use Rattle.checks.specs.declared.Refusal.{Refusal}

-- what a `?` answers for an error
pub handed_on : {A E : Type 0} (r : Result A E) (f : E) → IsErrAnd r (λ g. g ≡ f) → r ≡ Err f
handed_on (Ok a) f h = absurd h
handed_on (Err g) f h = ap Err h

module _ (cs : List Check) (r : Result Unit Refusal) (e : reading r ≡ checked cs) where
  pub checks-hold : r ≡ Ok tt → Hold cs
  checks-hold p = accepted-holds tt tt cs (sym e ∙ ap reading p)

  pub checks_passed : {A : Type 0} (a : A) → r ≡ Ok tt → verdict cs a ≡ accepted a
  checks_passed a p = accepts a cs (checks-hold p)

  pub checks_failed : {A : Type 0} (a : A) (f : Refusal) → r ≡ Err f → verdict cs a ≡ refused f.code f.position
  checks_failed a f p = refuses-alike tt a f.code f.position cs (sym e ∙ ap reading p)

  pub checks_refused : {A B : Type 0} (view : A → B) (b : B) {f : Refusal} (s : Result A Refusal) → r ≡ Err f → IsErrAnd s (λ g. g ≡ f) → reading_by view s ≡ verdict cs b
  checks_refused view b {f} s p h = ap (reading_by view) (handed_on s f h) ∙ sym (checks_failed b f p)

  -- they are the first part of a longer list
  pub part_passed : {A : Type 0} (a : A) (ds : List Check) → r ≡ Ok tt → verdict (cs ++ ds) a ≡ verdict ds a
  part_passed a ds p = passes-part a cs ds (checks-hold p)

  pub part_refused : {A : Type 0} (a : A) (ds : List Check) {f : Refusal} (s : Result A Refusal) → r ≡ Err f → IsErrAnd s (λ g. g ≡ f) → reading s ≡ verdict (cs ++ ds) a
  part_refused a ds {f} s p h = ap reading (handed_on s f h) ∙ sym (refuses tt a f.code f.position cs ds (sym e ∙ ap reading p))

  pub settles_accepted : {A B : Type 0} (a : A) (before after : B) → r ≡ Ok tt → record { answer = accepted a; buffers = after } ≡ settled (verdict cs a) before after
  settles_accepted a before after p = sym (settled-accepted a cs before after (checks-hold p))

  pub settles_refused : {A B : Type 0} (a : A) (before after : B) {f : Refusal} (s : Result A Refusal) → r ≡ Err f → IsErrAnd s (λ g. g ≡ f) → outcome s before ≡ settled (verdict cs a) before after
  settles_refused {A} a before after {f} s p h =
      ap (λ (t : Result A Refusal). outcome t before) (handed_on s f h)
      ∙ ap (λ (v : Verdict A). settled v before after) (sym (checks_failed a f p))
