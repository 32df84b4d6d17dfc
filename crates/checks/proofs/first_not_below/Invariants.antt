-- The search passed the bits below b and, in bit b, the words below i.
use mathlib.Core.Path.{◌≡◌}
use Prim.Native.Nat.{◌+◌, ◌*◌, ◌≤◌}
use lib.ListN.{take, drop}
use Rattle.checks.specs.Laws.{Searched}
use Rattle.std.specs.Prelude.{None}
use Rattle.checks.proofs.first_not_below.Given as goal

abbrev pub invariant-loop-i : goal.invariant-loop-i
invariant-loop-i l = (l.i ≤ l.per) × (l.found ≡ None) × (l.at ≡ l.start + (l.b * l.per + l.i)) × Searched l.q l.start (take (l.bits * l.per) (drop l.start l.words)) (l.b * l.per + l.i) l.at

abbrev pub invariant-bits : goal.invariant-bits
invariant-bits l = (l.b ≤ l.bits) × (l.found ≡ None) × (l.at ≡ l.start + l.b * l.per) × Searched l.q l.start (take (l.bits * l.per) (drop l.start l.words)) (l.b * l.per) l.at
