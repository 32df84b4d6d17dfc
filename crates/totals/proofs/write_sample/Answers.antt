-- The rows of x added, those of y taken off, and the totals moved.
use mathlib.Core.Path.{ap, ◌∙◌}
use mathlib.Core.Bool.{false}
use Prim.Native.Nat.{◌*◌}
use native.Mathlib.Omega.{arith}
use borrow.Author.Rules.{rules}
use Rattle.buffers.specs.Overwrite.{overwrite}
use Rattle.buffers.specs.Positions.{at, after}
use Rattle.conversion.specs.Conversion.{bit_words}
use Rattle.conversion.specs.Arrays.{drawn_part}
use Rattle.totals.proofs.Totals.{totals-below, totals-shares, totals_cleared}
use Rattle.totals.proofs.write_sample.Goals as goal

pub add_string-half-requires : goal.add_string-half-requires
add_string-half-requires c =
    (c.requires.0, c.requires.1, c.requires.2, c.requires.3, drawn_part _ 0 _ (omega arith) (omega arith) c.requires.4, c.requires.6, (λ i h. rw (c.requires.7 i h) ((omega (arith, c.requires.3.large)))))

pub add_string-end-requires : goal.add_string-end-requires
add_string-end-requires c =
    let a = c.args in
    let e = c.add_string-half.ensures in (
      c.requires.0,
      c.requires.1,
      c.requires.2,
      c.requires.3,
      drawn_part _ (a.k * bit_words a.n) _ e.1 (omega arith) c.requires.4,
      search rules,
      totals-below _ _ ((omega (arith, c.requires.3.large))) false (at a.x.now) (after a.start (at a.words.now)) _ a.k _ e.0,
    )

pub returns : goal.returns
returns c =
    let e = c.add_string-half.ensures in
    let f = c.add_string-end.ensures in
    let a = c.args in (
      c.move_totals.ensures.1 ∙ ap (overwrite a.out.now 0) (totals-shares a.n a.k a.q a.start _ a.x.now a.y.now a.words.now a.work.now _ _ ((omega (arith, c.requires.3.large))) c.requires.7 e.0 e.1 f.0),
      totals_cleared a.n _ _ a.work.now _ _ _ c.requires.6 c.requires.7 e.0 f.0 c.move_totals.ensures.0,
      omega (arith, e.1, f.1),
    )
