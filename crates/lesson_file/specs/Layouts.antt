-- What it means, in plain facts, that the records of a sample are whole.
use Rattle.std.specs.Prelude.{◌≡◌, Bool, true, false, cond, List, ℕ, ◌+◌, ◌*◌, ◌≤◌, ◌<◌, length}
use Rattle.std.proofs.Math.Path.{refl}
use native.Mathlib.Omega.{arith}
use borrow.Author.Tests.{leb-true}
use Rattle.buffers.specs.Positions.{at}
use Rattle.checks.specs.Checks.{parameter_checks}
use Rattle.checks.specs.Laws.{Hold, hold-front, hold-rest}
use Rattle.lesson_file.specs.Records.{number, list_size, y_first, parameters_checks, lists_checks, words_checks, word_count, strings_checks, layout_at, layout_checks}
use Rattle.lesson_file.specs.RecordLaws.{holds-located}
use Rattle.lesson_file.specs.declared.Layout.{Layout}

pub record WholeSample (file : List ℕ) (l : Layout) : Type 0 where
  pub parameters : Hold (parameter_checks l.parameters.n l.parameters.k l.parameters.q)
  pub x : l.lists.x + 2 + 2 * l.parameters.n ≤ length file
  pub y : l.lists.y + 2 + 2 * l.parameters.n ≤ length file
  pub limit : l.count ≤ 1792
  pub words : l.lists.next.at + 4 + 2 * l.count ≤ length file

module _ (file : List ℕ) (p : ℕ) where
  pub layout_next : (layout_at file p).next.at ≡ p + 6 + list_size (at file (p + 2)) + list_size (at file (p + 2)) + (4 + 2 * (layout_at file p).count)
  unfolding layout_at
  layout_next = refl

  pub layout_longer : p < (layout_at file p).next.at
  unfolding layout_at
  layout_longer = omega arith

module _ (file : List ℕ) (p : ℕ) (h : Hold (layout_checks file p)) where
  abbrev n : ℕ
  n = at file (p + 2)

  abbrev random : ℕ
  random = p + 6 + list_size n + list_size n

  front : Hold (parameters_checks file p)
  unfolding layout_checks
  front = hold-front (parameters_checks file p) (strings_checks file (p + 6) n) h

  rest : Hold (strings_checks file (p + 6) n)
  unfolding layout_checks
  rest = hold-rest (parameters_checks file p) (strings_checks file (p + 6) n) h

  lists-end : random ≤ length file
  lists-end = leb-true _ _ (hold-front (lists_checks file (p + 6) n) (words_checks file random) rest).1.1.1.1.1.0

  words : Hold (words_checks file random)
  words = hold-rest (lists_checks file (p + 6) n) (words_checks file random) rest

  -- either list ends before RW
  list_end : (b : Bool) (s t : ℕ) → s + list_size n ≤ random → t + list_size n ≤ random → cond b s t + 2 + 2 * n ≤ length file
  list_end true s t l m = omega (arith, lists-end)
  list_end false s t l m = omega (arith, lists-end)

  pub whole-sample : WholeSample file (layout_at file p)
  unfolding layout_at
  whole-sample =
      record {
        parameters = holds-located (λ _. p) (parameter_checks n (at file (p + 3)) (number file (p + 4))) front.1.1.1;
        x = list_end (y_first file (p + 6)) (p + 6 + list_size n) (p + 6) (omega arith) (omega arith);
        y = list_end (y_first file (p + 6)) (p + 6) (p + 6 + list_size n) (omega arith) (omega arith);
        limit = leb-true _ _ words.1.1.1.0;
        words = omega (arith, leb-true (random + (4 + 2 * word_count file random)) (length file) words.1.1.1.1.0);
      }

  -- the sample ends within the file
  pub layout_end : (layout_at file p).next.at ≤ length file
  unfolding layout_at
  layout_end = leb-true _ _ words.1.1.1.1.0
