-- Check 1 refuses, or the look at the table does, or the others decide with the k that was found.
use mathlib.Core.Path.{◌≡◌, sym, ap, ◌∙◌}
use Prim.Native.Nat.{ℕ}
use Rattle.checks.specs.Answers.{reading}
use Rattle.checks.specs.Checks.{accepted, checked}
use Rattle.checks.specs.Laws.{Past, pass, fail, within_true, passes-part}
use Rattle.checks.proofs.Settles.{handed_on}
use Rattle.binomial.specs.Sets.{set_checks, parameter_set}
use Rattle.binomial.proofs.SetsFit.{sets-fit}
use Rattle.binomial.specs.SetLaws.{set_there, set-refused}
use Rattle.noise.specs.Split.{or_none, list_checks, noise_checks}
use Rattle.noise.proofs.check_noise.Goals as goal
use Rattle.noise.proofs.check_noise.Goals.{Else-not-within, In_ok-s}

past1 : (c : Else-not-within) → let a = c.args in Past (noise_checks a.n a.set a.bytes.now a.xroom a.yroom) 1
past1 c = pass tt _ _ (sym c.within.ensures ∙ c.if-not-within.false)

found : (c : In_ok-s) → parameter_set c.args.set ≡ accepted c.in_ok-s.s
found c = sym c.parameter_set.ensures ∙ ap reading c.in_ok-s.was

pub returns-then-not-within : goal.returns-then-not-within
returns-then-not-within c = (rw c.into.ensures at c.refuse.ensures) ∙ sym (fail tt _ _ (sym c.within.ensures ∙ c.if-not-within.true))

pub returns-in_err-s : goal.returns-in_err-s
returns-in_err-s c =
    ap reading (handed_on _ _ c.from_residual.ensures.1)
    ∙ sym (past1 (goal.at.returns-in_err-s c).Else-not-within ∙ set-refused _ _ _ (sym c.parameter_set.ensures ∙ ap reading c.in_err-s.was) _)

pub check_lists-requires : goal.check_lists-requires
check_lists-requires c =
    ((within_true 2 8 _ (sym c.within.ensures ∙ c.if-not-within.false)).1, (within_true 1 16 _ (sets-fit _ _ (found c)).0).1)

pub returns : goal.returns
returns c =
    let a = c.args in
    let e = found (goal.at.returns c).In_ok-s in
    c.check_lists.ensures
    ∙ ap (λ (k : ℕ). checked (list_checks a.n a.set k a.bytes.now a.xroom a.yroom)) (sym (ap (λ v. (or_none v).k) e))
    ∙ sym (past1 (goal.at.returns c).Else-not-within ∙ passes-part tt (set_checks a.set) _ (set_there a.set _ e))
