-- Column after column; all columns are all rows.
use mathlib.Core.Path.{◌≡◌}
use Prim.Native.Nat.{◌≤◌}
use Rattle.buffers.specs.Columns.{columns}
use Rattle.noise.specs.Split.{noise_string, word_at, x_bit, y_bit}
use Rattle.noise.proofs.split_strings.Given as goal

abbrev pub invariant-loop-i : goal.invariant-loop-i
invariant-loop-i l =
    (l.i ≤ l.n) × (l.x ≡ columns 256 l.n (λ t i. word_at l.k (noise_string l.k l.bytes i) (x_bit l.k t)) l.i l.initial.x) × (l.y ≡ columns 256 l.n (λ t i. word_at l.k (noise_string l.k l.bytes i) (y_bit l.k t)) l.i l.initial.y)
