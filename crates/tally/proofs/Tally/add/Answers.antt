-- The k of the first sample is this one's where none came before. The sums fit, so that each is read back as it is.
use native.Mathlib.Omega.{arith}
use mir.Facts.{to_z-of_z}
use borrow.Author.Tests.{eq-eqb, ne_eqb}
use Rattle.tally.proofs.Signed.{small-fits, sum_fits}
use Rattle.tally.proofs.Tally.add.Goals as goal
use Rattle.tally.proofs.Tally.add.Goals.{then-self-eq0, else-self-eq0}

pub returns : goal.returns
returns c =
    let t = c.args.self.now in
    let room = c.requires.1 in
    let z = to_z-of_z c.ranges.sample in
    let s = to_z-of_z (small-fits t.sum (omega arith)) in
    let r = to_z-of_z (sum_fits t.sum c.args.sample room.summed c.requires.0) in
    elim c.if-self-eq0.branch [
      | then-self-eq0 w ↦ rw (w.self-is, eq-eqb t.total 0 w.if-self-eq0.true, c.position.ensures, c.square.ensures, z, s, r)
      | else-self-eq0 w ↦ rw (w.self-is, ne_eqb t.total 0 w.if-self-eq0.false, c.position.ensures, c.square.ensures, z, s, r)
    ]
