-- Where the arms meet, the digits in front of the last are written.
use Rattle.text.specs.Text.{Written}
use Rattle.text.specs.Laws.{written_nothing, written_then, room_behind, leading, leading-small, leading-large, decimal-last}
use Rattle.text.proofs.Writer.+decimal.Goals as goal
use Rattle.text.proofs.Writer.+decimal.Goals.{Joined-value-ge10, then-value-ge10, else-value-ge10}
use Rattle.std.proofs.Common.{◌+◌, [], ◌∷◌, ◌%◌, length, arith, ap, length-append}

module _ (t : _) (c : Joined-value-ge10 t) where
  leading_written : Written c.args.self.now (leading c.args.value) c.if-value-ge10.self
  leading_written =
      elim c.if-value-ge10.branch [
        | then-value-ge10 w ↦ rw (w.self-is, leading-large c.args.value w.if-value-ge10.true) w.decimal.ensures
        | else-value-ge10 w ↦ rw (w.self-is, leading-small c.args.value w.if-value-ge10.false) (written_nothing c.args.self.now)
      ]

pub decimal-requires : goal.decimal-requires
decimal-requires t c =
    let e = ap length (leading-large c.args.value c.if-value-ge10.true) in
    let l = ap length (decimal-last c.args.value) in
    (omega arith, omega (arith, e, l, length-append (leading c.args.value) ((48 + c.args.value % 10) ∷ [])))

pub bytes-requires : goal.bytes-requires
bytes-requires t c = room_behind (leading c.args.value) _ (rw (decimal-last c.args.value) at c.requires) (leading_written t (goal.at.bytes-requires t c).Joined-value-ge10)

pub returns : goal.returns
returns t c = rw (decimal-last c.args.value) (written_then (leading_written t (goal.at.returns t c).Joined-value-ge10) c.bytes.ensures)
