-- The checks' verdict; a refusal comes before anything is written, and behind the checks the string is converted.
use mathlib.Core.Path.{◌≡◌, ap, ap₂, ◌∙◌}
use mathlib.Core.List.{List, []}
use Prim.Native.Nat.{ℕ}
use native.Mathlib.Nat.{zero-add}
use native.Mathlib.Omega.{arith}
use lib.ListN.{length}
use Rattle.buffers.specs.Overwrite.{overwrite}
use Rattle.buffers.specs.PositionLaws.{front_same}
use Rattle.std.specs.Prelude.{Ok}
use Rattle.checks.specs.Answers.{outcome}
use Rattle.checks.specs.Laws.{Hold}
use Rattle.checks.proofs.Settles.{checks-hold, settles_accepted, settles_refused}
use Rattle.conversion.specs.Conversion.{value_words, string_checks, value_checks}
use Rattle.conversion.specs.Accepted.{SharedString, shared_string, fit-first, fit_drawn, fit-room}
use Rattle.values.specs.Values.{value_shares, converted_value}
use Rattle.values.proofs.Calls.{shares_made}
use Rattle.values.proofs.SecrecyProof.{value-secrecy}
use Rattle.values.proofs.convert_value.Goals as goal
use Rattle.values.proofs.convert_value.Goals.{After-write_value, In_ok-check_value}

holds : (c : In_ok-check_value) → let a = c.args in Hold (value_checks a.n a.k a.q a.shares.now a.words.now 0 (length a.out.now))
holds c = checks-hold _ _ c.check_value.ensures c.in_ok-check_value.was

shared : (c : In_ok-check_value) → let a = c.args in SharedString a.n a.k a.q a.shares.now
shared c = let a = c.args in shared_string _ _ _ _ (fit-first (string_checks a.n a.k a.q a.shares.now) 0 (value_words a.n a.k) a.q a.words.now a.n (length a.out.now) [] (holds c))

-- what is written: the shares of the written steps
written : (c : After-write_value) → let a = c.args in SharedString a.n a.k a.q a.shares.now → c.write_value.new.out ≡ overwrite a.out.now 0 (value_shares a.n a.k a.q a.shares.now a.words.now)
written c s =
    let a = c.args in
    let x = front_same _ a.shares.now _ 8 c.copy_eight.ensures (omega (arith, s.count, s.eight)) in
    c.write_value.ensures.0 ∙ ap (overwrite a.out.now 0) (shares_made a.n a.k a.q s.modulus c.copy_eight.new.to a.shares.now a.words.now (λ i l. x i (omega (arith, s.count))))

pub returns-in_err-check_value : goal.returns-in_err-check_value
unfolding converted_value
returns-in_err-check_value c = record { out_after = settles_refused _ _ c.check_value.ensures _ _ _ _ c.in_err-check_value.was c.from_residual.ensures.1; secrecy = value-secrecy _ _ _ }

pub write_value-requires : goal.write_value-requires
write_value-requires c =
    let a = c.args in
    let f = string_checks a.n a.k a.q a.shares.now in
    let s = shared (goal.at.write_value-requires c).In_ok-check_value in
    (s.two, s.eight, s.sixteen, record { large = s.modulus; small = omega arith }, fit_drawn f _ _ _ _ a.n (length a.out.now) [] (holds (goal.at.write_value-requires c).In_ok-check_value), fit-room f 0 (value_words a.n a.k) a.q a.words.now _ _ [] (holds (goal.at.write_value-requires c).In_ok-check_value))

pub returns : goal.returns
unfolding converted_value
returns c =
    record { out_after = ap₂ (λ (p : ℕ) (out : List ℕ). outcome (Ok p) out) (c.write_value.ensures.1 ∙ zero-add _) (written (goal.at.returns c).After-write_value (shared (goal.at.returns c).In_ok-check_value)) ∙ settles_accepted _ _ c.check_value.ensures _ _ _ c.in_ok-check_value.was; secrecy = value-secrecy _ _ _ }
