-- The checks' verdict; a refusal comes before anything is written, and behind the checks the bit is converted.
use mathlib.Core.Path.{◌≡◌, ◌∙◌, ap, ap₂}
use mathlib.Core.List.{List, []}
use Prim.Native.Nat.{ℕ}
use native.Mathlib.Omega.{arith}
use lib.ListN.{length, drop}
use Rattle.std.specs.Prelude.{Ok}
use Rattle.checks.specs.Checks.{checked}
use Rattle.checks.specs.Answers.{reading, outcome}
use Rattle.checks.specs.Laws.{Hold}
use Rattle.checks.proofs.Settles.{checks-hold, settles_accepted, settles_refused}
use Rattle.buffers.specs.Overwrite.{overwrite}
use Rattle.buffers.specs.Positions.{at, table, after, Same, Below}
use Rattle.buffers.specs.PositionLaws.{front_same}
use Rattle.conversion.specs.Conversion.{convert_bit, bit_words, bit_shares, sharing_checks, bit_checks, converted}
use Rattle.conversion.specs.Accepted.{SharedString, shared_bit, fit-first, fit_drawn, fit-room}
use Rattle.conversion.proofs.Calls.{bit-checks}
use Rattle.conversion.proofs.SecrecyProof.{bit-secrecy}
use Rattle.conversion.proofs.Steps.{bit_alone}
use Rattle.conversion.proofs.convert_bit.Goals as goal
use Rattle.conversion.proofs.convert_bit.Goals.{After-bits_at-lowest, After-check_value, In_ok-check_value}

-- the verdict is that of the call's own checks
read : (c : After-check_value) → let a = c.args in reading c.check_value.result ≡ checked (bit_checks a.n a.q a.bits.now a.words.now a.start (length a.out.now))
read c = let a = c.args in c.check_value.ensures ∙ bit-checks tt a.n a.q a.bits.now a.words.now a.start (length a.out.now)

holds : (c : In_ok-check_value) → let a = c.args in Hold (bit_checks a.n a.q a.bits.now a.words.now a.start (length a.out.now))
holds c = let a = c.args in checks-hold _ _ (c.check_value.ensures ∙ bit-checks tt a.n a.q a.bits.now a.words.now a.start (length a.out.now)) c.in_ok-check_value.was

shared : (c : In_ok-check_value) → let a = c.args in SharedString a.n 1 a.q a.bits.now
shared c = let a = c.args in shared_bit _ _ _ (fit-first (sharing_checks a.n a.q a.bits.now) a.start (bit_words a.n) a.q a.words.now a.n (length a.out.now) [] (holds c))

-- the bits that are converted are the shares, and so are they as bits of the array
lowest : (c : After-bits_at-lowest) → let a = c.args in SharedString a.n 1 a.q a.bits.now → Below 2 a.n (at c.bits_at-lowest.result) × (table a.n (convert_bit a.q a.n (at c.bits_at-lowest.result) (after a.start (at a.words.now))) ≡ bit_shares a.n a.q a.bits.now (drop a.start a.words.now))
lowest c s =
    let a = c.args in
    let g : Same a.n (at c.copy_eight.new.to) (at a.bits.now) = λ i l. front_same _ a.bits.now _ 8 c.copy_eight.ensures (omega (arith, s.count, s.eight)) i (omega (arith, s.count)) in
    bit_alone a.n a.q a.bits.now a.words.now a.start c.copy_eight.new.to _ s.modulus (omega (arith, s.two)) s.eight s.below g c.bits_at-lowest.ensures

pub returns-in_err-check_value : goal.returns-in_err-check_value
unfolding converted
returns-in_err-check_value c = record { out_after = settles_refused _ _ (read (goal.at.returns-in_err-check_value c).After-check_value) _ _ _ _ c.in_err-check_value.was c.from_residual.ensures.1; secrecy = bit-secrecy _ _ }

pub convert_at-requires : goal.convert_at-requires
convert_at-requires c =
    let a = c.args in
    let f = sharing_checks a.n a.q a.bits.now in
    let h = holds (goal.at.convert_at-requires c).In_ok-check_value in
    let s = shared (goal.at.convert_at-requires c).In_ok-check_value in
    (s.two, s.eight, (lowest (goal.at.convert_at-requires c).After-bits_at-lowest s).0, record { large = s.modulus; small = omega arith }, fit_drawn f _ _ _ _ a.n (length a.out.now) [] h, fit-room f a.start (bit_words a.n) a.q a.words.now _ _ [] h)

pub returns : goal.returns
unfolding converted
returns c =
    let a = c.args in
    let r = c.convert_at.ensures in record {
      out_after = ap₂ (λ (p : ℕ) (out : List ℕ). outcome (Ok p) out) r.1 (r.0 ∙ ap (overwrite a.out.now 0) (lowest (goal.at.returns c).After-bits_at-lowest (shared (goal.at.returns c).In_ok-check_value)).1)
          ∙ settles_accepted _ _ (read (goal.at.returns c).After-check_value) _ _ _ c.in_ok-check_value.was;
      secrecy = bit-secrecy _ _;
    }
