-- A file that ends before the second letter has no mark there.
use mathlib.Core.Path.{refl, sym, ◌∙◌}
use borrow.Author.Tests.{leb-true, leb-false}
use Rattle.lesson_file.specs.RecordLaws.{mark_missing}
use Rattle.lesson_file.proofs.is_y_first.Goals as goal

pub has_mark-requires : goal.has_mark-requires
has_mark-requires c = leb-true _ _ (sym c.has_bytes.ensures ∙ c.if-has_bytes.true)

pub returns-else-has_bytes : goal.returns-else-has_bytes
returns-else-has_bytes c = c.if-has_bytes.false ∙ mark_missing _ _ _ (leb-false _ _ (sym c.has_bytes.ensures ∙ c.if-has_bytes.false)) refl
