-- The sample of the blocks, put back.
use native.Mathlib.Omega.{arith}
use Rattle.buffers.specs.Blocks.{length-block, part-block}
use Rattle.polynomial.proofs.Steps.{block_gathered, coefficient_put}
use Rattle.polynomial.proofs.write_coefficient.Goals as goal

pub write_sample-requires : goal.write_sample-requires
write_sample-requires c =
    let a = c.args in
    rw (part-block a.n a.t a.out.now) (
      c.requires.0,
      c.requires.1,
      c.requires.2,
      c.requires.3,
      c.requires.6,
      omega (arith, length-block a.n a.out.now a.t c.requires.8),
      c.requires.9,
      c.requires.10,
    )

pub returns : goal.returns
returns c =
    let a = c.args in
    let e = c.write_sample.ensures in
    let x = block_gathered a.n a.t a.x.now _ _ c.requires.1 c.requires.4 c.copy_eight.ensures in
    let y = block_gathered a.n a.t a.y.now _ _ c.requires.1 c.requires.5 c.copy_eight-2.ensures in
    (coefficient_put _ _ _ _ _ _ _ c.requires.3.large _ c.requires.7 _ _ _ _ c.requires.8 x y e.0, e.1, e.2)
