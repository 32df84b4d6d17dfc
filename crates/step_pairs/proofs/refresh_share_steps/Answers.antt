use mathlib.Core.Path.{◌∙◌}
use Prim.Native.Nat.{◌+◌, ◌-◌}
use native.Mathlib.Numerals.{add-one}
use native.Mathlib.Omega.{arith}
use Rattle.step_pairs.proofs.Steps.{pair_fits, pair-done, pairs-all}
use Rattle.step_pairs.proofs.refresh_share_steps.Goals as goal

pub refresh_pair-requires : goal.refresh_pair-requires
refresh_pair-requires c =
    let l = c.loop-m in
    let U = l.invariant.2 in (
      l.invariant.0,
      omega (arith, c.requires.1, c.loop-m-test.true),
      c.requires.6.below _ (omega arith),
      c.requires.3,
      U.eight,
      U.below _ (omega (arith, c.requires.0)),
      U.below _ c.loop-m-test.true,
      pair_fits (c.args.n - (l.m + 1)) (omega (arith, c.loop-m-test.true)) U,
    )

pub loop-m-preserved : goal.loop-m-preserved
loop-m-preserved c =
    let l = c.loop-m in
    let e = c.refresh_pair.ensures in (
      omega (arith, l.invariant.0),
      omega (arith, c.loop-m-test.true),
      pair-done (c.args.n - (l.m + 1)) (omega (arith, c.loop-m-test.true)) l.invariant.2 (omega (arith, c.requires.3.large)) _ e.0 e.1 e.2.wrote _ _ _ (omega (arith, l.invariant.0)) (add-one l.m) (omega (arith, l.invariant.0)),
      e.2.same ∙ l.invariant.3,
    )

pub returns : goal.returns
returns c =
    let made = pairs-all c.loop-m.invariant.2 (omega (arith, c.loop-m-test.false)) in
    (made.0, made.1, record { wrote = made.2; same = c.loop-m.invariant.3 })
