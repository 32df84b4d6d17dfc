-- The lists are read, and then RW, which stands behind them.
use mathlib.Core.Path.{◌≡◌, sym, ap, ◌∙◌}
use mathlib.Core.List.{List, ◌++◌}
use Prim.Native.Nat.{ℕ}
use Rattle.checks.specs.Checks.{Check, accepted, refused, verdict}
use Rattle.checks.specs.Answers.{reading}
use Rattle.checks.specs.Laws.{Hold, accepted-holds, accepted-answer, refuses-alike, passes-part}
use Rattle.lesson_file.specs.Records.{lists_checks, lists_at, word_count, words_checks, layout_from}
use Rattle.lesson_file.specs.declared.Parameters.{Parameters}
use Rattle.lesson_file.specs.declared.Lists.{Lists}
use Rattle.lesson_file.specs.declared.Layout.{Layout}
use Rattle.checks.proofs.Settles.{handed_on}
use Rattle.lesson_file.proofs.Refused.{value_refused}
use Rattle.lesson_file.proofs.Cursor.read_strings.Goals as goal

-- the lists at p, which were read whole, and what is said of RW behind them
module _ (file : List ℕ) (p : ℕ) (parameters : Parameters) (l : Lists) (e : accepted l ≡ verdict (lists_checks file p parameters.n) (lists_at file p parameters.n)) where
  abbrev list_checks : List Check
  list_checks = lists_checks file p parameters.n

  abbrev random_checks : List Check
  random_checks = words_checks file (lists_at file p parameters.n).next.at

  abbrev random_count : ℕ
  random_count = word_count file (lists_at file p parameters.n).next.at

  abbrev layout : Layout
  layout = layout_from file p parameters

  listed : Hold list_checks
  listed = accepted-holds _ _ _ (sym e)

  lists : l ≡ lists_at file p parameters.n
  lists = accepted-answer _ _ _ (sym e)

  worded : verdict (words_checks file l.next.at) (word_count file l.next.at) ≡ verdict random_checks random_count
  worded = ap (λ (s : Lists). verdict (words_checks file s.next.at) (word_count file s.next.at)) lists

  refused_words : (code position : ℕ) → refused code position ≡ verdict (words_checks file l.next.at) (word_count file l.next.at) → refused code position ≡ verdict (list_checks ++ random_checks) layout
  refused_words code position h = sym (passes-part layout list_checks random_checks listed ∙ refuses-alike _ _ _ _ random_checks (sym (h ∙ worded)))

pub returns-in_err-lists : goal.returns-in_err-lists
returns-in_err-lists c = value_refused _ _ _ _ _ c.read_lists.ensures _ c.in_err-lists.was c.from_residual.ensures.1

pub returns-in_err-count : goal.returns-in_err-count
returns-in_err-count c = ap reading (handed_on _ _ c.from_residual-in_err-count.ensures.1) ∙ refused_words _ _ _ _ c.in_ok-lists.ensures _ _ c.in_err-count.ensures
