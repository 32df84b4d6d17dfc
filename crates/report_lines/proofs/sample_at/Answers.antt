-- Position 0 is that of -16.
use mathlib.Core.Path.{ap, ◌∙◌}
use Prim.Native.Nat.{ℕ}
use lib.IntN.{pos, ◌-ℤ◌}
use mir.Syntax.{w32}
use mir.Facts.{to_z-of_z}
use borrow.Author.Rules.{sfits_of}
use Rattle.report_lines.proofs.sample_at.Goals as goal

pub returns : goal.returns
returns c = to_z-of_z {w = w32} (sfits_of c.difference.type_inv) ∙ c.difference.ensures ∙ ap (λ (a : ℕ). pos a -ℤ pos 16) c.from_u16.ensures
