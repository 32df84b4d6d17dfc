-- Pair after pair.
use mathlib.Core.Path.{◌≡◌}
use Prim.Native.Nat.{◌+◌, ◌-◌, ◌≤◌, ◌<◌}
use Rattle.buffers.specs.Positions.{at, after}
use Rattle.conversion.specs.Conversion.{refresh_share}
use Rattle.steps.specs.Steps.{refresh_share_steps}
use Rattle.step_pairs.proofs.Steps.{PairsLeft}
use Rattle.step_pairs.proofs.refresh_share_steps.Given as goal

abbrev pub invariant-loop-m : goal.invariant-loop-m
invariant-loop-m l =
    let w = at l.words in
    let T = refresh_share l.q l.i (l.i + 1) (l.n - (l.i + 1)) (after l.start w) (at l.initial.list) in
    let whole = refresh_share_steps l.q l.bit l.pair l.i (l.i + 1) (l.n - (l.i + 1)) (after l.start w) (at l.initial.list) in
    let turn = l.m - (l.i + 1) in
    (l.i < l.m) × (l.m ≤ l.n) × PairsLeft l.q l.n l.bit w T l.initial.out.text.now l.initial.out.end whole (l.pair + turn) l.i l.m (l.n - l.m) (l.start + turn) l.list l.out.text.now l.out.end × (l.out.text.ghost_name ≡ l.initial.out.text.ghost_name)
