-- Group after group: four words more are stored in each list.
use mathlib.Core.Path.{◌≡◌}
use Prim.Native.Nat.{◌+◌, ◌*◌, ◌≤◌}
use Rattle.buffers.specs.Columns.{stored}
use Rattle.noise.specs.Split.{noise_string, word_at, x_bit, y_bit}
use Rattle.noise.proofs.split_string.Given as goal

abbrev pub invariant-loop-g : goal.invariant-loop-g
invariant-loop-g l =
    (l.g ≤ 64) × (l.x ≡ stored (λ t. t * l.n + l.i) (λ t. word_at l.k (noise_string l.k l.bytes l.i) (x_bit l.k t)) (4 * l.g) l.initial.x) × (l.y ≡ stored (λ t. t * l.n + l.i) (λ t. word_at l.k (noise_string l.k l.bytes l.i) (y_bit l.k t)) (4 * l.g) l.initial.y)
