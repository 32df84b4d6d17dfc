-- Share after share.
use mathlib.Core.Path.{◌≡◌}
use Prim.Native.Nat.{◌+◌, ◌-◌, ◌≤◌}
use Rattle.buffers.specs.Positions.{at, after}
use Rattle.conversion.specs.Conversion.{pairs, refresh}
use Rattle.steps.specs.Steps.{refresh_steps}
use Rattle.step_pairs.proofs.Steps.{SharesLeft}
use Rattle.step_pairs.proofs.refresh_steps.Given as goal

abbrev pub invariant-loop-i : goal.invariant-loop-i
invariant-loop-i l =
    let w = at l.words in
    let T = refresh l.q l.n (after l.start w) (at l.initial.list) in
    let whole = refresh_steps l.q l.bit 1 0 l.n (after l.start w) (at l.initial.list) in
    (l.i ≤ l.n) × (l.done + pairs (l.n - l.i) ≡ pairs l.n) × SharesLeft l.q l.n l.bit w T l.initial.out.text.now l.initial.out.end whole (1 + l.done) l.i (l.n - l.i) (l.start + l.done) l.list l.out.text.now l.out.end × (l.out.text.ghost_name ≡ l.initial.out.text.ghost_name)
