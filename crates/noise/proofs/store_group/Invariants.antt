-- Word after word; what is left of the group is shifted down.
use mathlib.Core.Path.{◌≡◌}
use Prim.Native.Nat.{◌+◌, ◌*◌, ◌/◌, ◌%◌, ◌^◌, ◌≤◌}
use Rattle.buffers.specs.Columns.{stored}
use Rattle.noise.proofs.store_group.Given as goal

abbrev pub invariant-loop-c : goal.invariant-loop-c
invariant-loop-c l =
    (l.c ≤ 4) × (l.rest ≡ l.group / 2 ^ (2 * l.k * l.c)) × (l.x ≡ stored (λ c. l.first + c * l.n) (λ c. l.group / 2 ^ (2 * l.k * c) % 2 ^ l.k) l.c l.initial.x) × (l.y ≡ stored (λ c. l.first + c * l.n) (λ c. l.group / 2 ^ (2 * l.k * c + l.k) % 2 ^ l.k) l.c l.initial.y)
