use mathlib.Core.Path.{◌≡◌, refl, ◌∙◌}
use Prim.Native.Nat.{◌+◌, ◌-◌, ◌≤◌}
use native.Mathlib.Numerals.{add-one}
use native.Mathlib.Omega.{arith}
use Rattle.conversion.specs.Conversion.{pairs}
use Rattle.conversion.proofs.Laws.{pairs-step, pairs-most}
use Rattle.conversion.specs.Arrays.{drawn_part}
use Rattle.step_pairs.proofs.Steps.{share-fits, share-done, shares-all}
use Rattle.step_pairs.proofs.refresh_steps.Goals as goal
use Rattle.step_pairs.proofs.refresh_steps.Goals.{In-loop-i}

-- the pairs of the share whose turn it is
step : (c : In-loop-i) → let n = c.args.n in let i = c.loop-i.i in pairs (n - i) ≡ pairs (n - (i + 1)) + (n - (i + 1))
step c = pairs-step _ _ (omega (arith, c.loop-i-test.true))

few : (c : In-loop-i) → let n = c.args.n in (c.loop-i.done + (n - (c.loop-i.i + 1)) ≤ pairs n) × (pairs n ≤ 28)
few c =
    let n = c.args.n in
    let i = c.loop-i.i in
    let e : pairs (n - i) ≡ pairs (n - (i + 1)) + (n - (i + 1)) = pairs-step _ _ (omega (arith, c.loop-i-test.true)) in
    (omega (arith, c.loop-i.invariant.1), pairs-most _ c.requires.0)

pub refresh_share_steps-requires : goal.refresh_share_steps-requires
refresh_share_steps-requires c =
    let l = c.loop-i in
    let U = l.invariant.2 in (
      c.loop-i-test.true,
      c.requires.0,
      omega (arith, few (goal.at.refresh_share_steps-requires c).In-loop-i),
      c.requires.1,
      U.eight,
      U.below,
      drawn_part _ l.done _ refl (omega (arith, few (goal.at.refresh_share_steps-requires c).In-loop-i)) c.requires.4,
      share-fits (c.args.n - (l.i + 1)) (omega (arith, c.loop-i-test.true)) U (l.i + 1) (add-one l.i),
    )

pub loop-i-preserved : goal.loop-i-preserved
loop-i-preserved c =
    let l = c.loop-i in
    let e = c.refresh_share_steps.ensures in (
      omega (arith, c.loop-i-test.true),
      omega (arith, l.invariant.1, step (goal.at.loop-i-preserved c).In-loop-i),
      share-done (c.args.n - (l.i + 1)) (omega (arith, c.loop-i-test.true)) l.invariant.2 (l.i + 1) (add-one l.i) (omega (arith, c.requires.1.large)) _ e.0 e.1 e.2.wrote _ _ (omega arith) (omega arith),
      e.2.same ∙ l.invariant.3,
    )

pub returns : goal.returns
returns c =
    let made = shares-all c.loop-i.invariant.2 (omega (arith, c.loop-i-test.false)) in
    (made.0, made.1, record { wrote = made.2; same = c.loop-i.invariant.3 })
