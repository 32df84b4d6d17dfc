-- The sign is written where the value is negative, and then the magnitude.
use Rattle.std.proofs.Common.{arith, length, ap, ◌≡◌, ◌++◌, [], ap, List, ℕ}
use Rattle.std.specs.Prelude.{nat_abs}
use mir.Syntax.{w32}
use mir.Val.{to_z, of_z}
use mir.Facts.{to_z-of_z}
use Rattle.text.specs.Ascii.{ascii}
use Rattle.text.specs.Text.{signed, decimal, Written}
use Rattle.text.specs.Laws.{written_nothing, written_then, room_behind, signed_below, signed_from}
use Rattle.text.proofs.Writer.signed.Goals as goal
use Rattle.text.proofs.Writer.signed.Goals.{Joined-value-lt0, then-value-lt0, else-value-lt0}

record Sign (c : Joined-value-lt0) : Type 0 where
  sign : List ℕ
  whole : signed c.args.value ≡ sign ++ decimal (nat_abs (to_z w32 (of_z w32 c.args.value)))
  written : Written c.args.self.now sign c.if-value-lt0.self

sign_of : (c : Joined-value-lt0) → Sign c
sign_of c =
    let r = to_z-of_z c.ranges.value in
    elim c.if-value-lt0.branch [
      | then-value-lt0 w ↦ record { sign = ascii "-"; whole = rw r (signed_below c.args.value (rw r at w.if-value-lt0.true)); written = rw w.self-is w.bytes.ensures }
      | else-value-lt0 w ↦ record { sign = []; whole = rw r (signed_from c.args.value (rw r at w.if-value-lt0.false)); written = rw w.self-is (written_nothing c.args.self.now) }
    ]

pub decimal-requires : goal.decimal-requires
decimal-requires c =
    let s = sign_of (goal.at.decimal-requires c).Joined-value-lt0 in
    rw c.magnitude.ensures (room_behind s.sign _ (rw s.whole at c.requires) s.written)

pub bytes-requires : goal.bytes-requires
bytes-requires c = omega (arith, c.requires, ap length (signed_below c.args.value (rw (to_z-of_z c.ranges.value) at c.if-value-lt0.true)))

pub returns : goal.returns
returns c =
    let s = sign_of (goal.at.returns c).Joined-value-lt0 in
    rw s.whole (written_then s.written (rw c.magnitude.ensures at c.decimal.ensures))
