-- The bits below t are in the totals, and the records of those from t on are left.
use mathlib.Core.Path.{◌≡◌}
use Prim.Native.Nat.{◌≤◌}
use Rattle.buffers.specs.Overwrite.{overwrite}
use Rattle.buffers.specs.Positions.{at, table, after}
use Rattle.totals.specs.Totals.{totals_of}
use Rattle.sample_steps.proofs.Steps.{BitsLeft}
use Rattle.sample_steps.proofs.add_string_steps.Given as goal

abbrev pub invariant-loop-t : goal.invariant-loop-t
invariant-loop-t l =
    (l.t ≤ l.k) × (l.work ≡ overwrite l.initial.work 0 (table l.n (totals_of l.n l.q l.negative (at l.shares) (after l.start (at l.words)) l.initial.work l.t))) × BitsLeft l.n l.k l.q l.negative l.first (at l.shares) (after l.start (at l.words)) l.initial.work l.initial.out.text.now l.initial.out.end l.t l.out.text.now l.out.end × (l.out.text.ghost_name ≡ l.initial.out.text.ghost_name)
