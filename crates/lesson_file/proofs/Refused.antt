-- What a `?` answers for a call with a value whose checks come first.
use Rattle.std.specs.Prelude.{◌≡◌, List, ◌++◌, Result, Err, IsErrAnd}
use Rattle.std.proofs.Common.{sym, ap, ◌∙◌}
use Rattle.checks.specs.Checks.{Check, verdict}
use Rattle.checks.specs.Answers.{reading}
use Rattle.checks.specs.Laws.{refuses}
use Rattle.checks.specs.declared.Refusal.{Refusal}
use Rattle.checks.proofs.Settles.{handed_on}

pub value_refused :
    {A B : Type 0}
    (a : A)
    (b : B)
    (cs ds : List Check)
    (r : Result A Refusal)
    → reading r ≡ verdict cs a
    → {f : Refusal}
    (s : Result B Refusal)
    → r ≡ Err f
    → IsErrAnd s (λ g. g ≡ f)
    → reading s ≡ verdict (cs ++ ds) b
value_refused a b cs ds r e {f} s p h = ap reading (handed_on s f h) ∙ sym (refuses a b f.code f.position cs ds (sym e ∙ ap reading p))
