-- Shares below q are opened, and their residue is below q.
use mathlib.Core.Path.{◌≡◌, sym, ap, ◌∙◌}
use mathlib.Core.List.{List}
use Prim.Native.Nat.{ℕ, ◌≤◌}
use lib.IntN.{ℤ}
use native.Mathlib.Omega.{arith}
use lib.ListN.{length}
use borrow.Author.Tests.{le-leb, lt-ltb, eq-eqb}
use Rattle.residue.specs.Residue.{reduce, total, EachBelow}
use Rattle.residue.proofs.Laws.{reduce_lt}
use Rattle.residue.proofs.Signed.{read_back}
use Rattle.std.specs.Prelude.{is_none, pos, Result, Ok, Err}
use Rattle.std.specs.Result.{result_unwrap_or}
use Rattle.checks.specs.declared.Refusal.{Refusal}
use Rattle.checks.specs.Checks.{accepted}
use Rattle.checks.specs.Laws.{true_within, not_both, same_answer, accepts, each-below-none}
use Rattle.masking.specs.Sharing.{open_residue_checks, opened_residue}
use Rattle.masking.specs.Answers.{residue_reading}
use Rattle.binomial.specs.Signed.{centred_value, centre_checks, centred}
use Rattle.checks.specs.Answers.{reading}
use Rattle.lesson_samples.proofs.open_sample.Goals as goal
use Rattle.lesson_samples.proofs.open_sample.Goals.{After-centre}

-- neither call refuses
opened : (n q : ℕ) (shares : List ℕ) → 2 ≤ n → n ≤ 8 → 3 ≤ q → length shares ≡ n → EachBelow q shares → opened_residue n q shares ≡ accepted (reduce q (total shares))
unfolding opened_residue
opened n q shares two eight three count below =
    accepts _ (open_residue_checks n q shares) (true_within 2 8 _ two eight, (le-leb 3 _ three, (eq-eqb _ _ count, (ap is_none (each-below-none _ _ 0 below), tt))))

centring : (c : After-centre) → let a = c.args in reading c.centre.result ≡ accepted (centred_value a.q (reduce a.q (total a.shares.now)))
unfolding centred
centring c =
    let a = c.args in
    let r = reduce a.q (total a.shares.now) in
    let s = opened _ _ _ c.requires.0 c.requires.1 c.requires.2 c.requires.3 c.requires.4 in
    c.centre.ensures ∙ ap (centred a.q) (same_answer (sym (ap residue_reading c.in-Ok.is) ∙ c.open_residue.ensures ∙ s))
    ∙ accepts _ (centre_checks a.q r) (le-leb 3 a.q c.requires.2, (lt-ltb r a.q (reduce_lt a.q (omega (arith, c.requires.2)) _), tt))

value_unwrapped : (r : Result ℤ Refusal) (value default : ℤ) → reading r ≡ accepted value → result_unwrap_or r default ≡ value
value_unwrapped (Ok v) value default e = same_answer e
value_unwrapped (Err f) value default e = absurd (not_both (sym e))

pub returns-in_default : goal.returns-in_default
returns-in_default c =
    absurd (not_both (sym (opened _ _ _ c.requires.0 c.requires.1 c.requires.2 c.requires.3 c.requires.4) ∙ sym c.open_residue.ensures ∙ ap residue_reading c.in_default.is))

pub returns : goal.returns
returns c =
    let e = value_unwrapped _ _ (pos 0) (centring (goal.at.returns c).After-centre) in
    read_back c.unwrap_or.result c.unwrap_or.type_inv ∙ c.unwrap_or.ensures ∙ e
