use mathlib.Core.Path.{◌≡◌, refl, ap, ◌∙◌}
use Prim.Native.Nat.{◌*◌}
use native.Mathlib.Nat.{mul-le-mul_right}
use native.Mathlib.Omega.{arith}
use lib.ListN.{length}
use Rattle.buffers.specs.Overwrite.{overwrite}
use Rattle.buffers.specs.Blocks.{block-fits}
use Rattle.conversion.specs.Arrays.{drawn_part}
use Rattle.totals.specs.Sample.{sample_words}
use Rattle.polynomial.specs.Polynomial.{polynomial_shares}
use Rattle.polynomial.proofs.Steps.{coefficients_none, coefficients_next, coefficients_length}
use Rattle.polynomial.proofs.write_coefficients.Goals as goal
use Rattle.polynomial.proofs.write_coefficients.Goals.{At-loop-t}

-- the output keeps its length
out-length : (c : At-loop-t) → length c.loop-t.out ≡ length c.args.out.now
out-length c =
    coefficients_length _ _ _ _ _ _ _ _ _ c.loop-t.invariant.1 (omega (arith, mul-le-mul_right c.args.n c.loop-t.invariant.0, c.requires.7))

pub loop-t-init : goal.loop-t-init
loop-t-init c = (omega arith, coefficients_none _ _ _ _ _ _ _, refl, omega arith)

pub write_coefficient-p-requires : goal.write_coefficient-p-requires
write_coefficient-p-requires c =
    let l = c.loop-t in
    let W = sample_words c.args.n c.args.k in
    let f = block-fits c.args.n c.loop-t-test.true in (
      c.requires.0,
      c.requires.1,
      c.requires.2,
      c.requires.3,
      omega (arith, c.requires.4),
      omega (arith, c.requires.5),
      drawn_part l.p (l.t * W) W (omega (arith, l.invariant.3)) (block-fits W c.loop-t-test.true) c.requires.6,
      l.invariant.3,
      omega (arith, c.requires.7, out-length (goal.at.write_coefficient-p-requires c).At-loop-t),
      rw l.invariant.2 c.requires.8,
      rw l.invariant.2 c.requires.9,
    )

pub loop-t-preserved : goal.loop-t-preserved
loop-t-preserved c =
    let l = c.loop-t in
    let e = c.write_coefficient-p.ensures in
    (omega arith, coefficients_next _ _ _ _ _ _ _ _ _ _ l.invariant.1 e.0, e.1 ∙ l.invariant.2, omega (arith, e.2, l.invariant.3))

pub returns : goal.returns
returns c =
    let l = c.loop-t in
    let e : l.t ≡ c.args.m = omega arith in
    let a = c.args in
    (l.invariant.1 ∙ ap (λ m. overwrite a.out.now 0 (polynomial_shares a.n a.k a.q m a.x.now a.y.now a.words.now)) e, l.invariant.2, rw e at l.invariant.3)
