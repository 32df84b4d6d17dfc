-- The records of a lesson file (document 01: 'Lesson files and the lesson program'). A file is the list of its bytes, p a position in it.
use Rattle.std.specs.Prelude.{Bool, cond, ◌&&◌, List, [], ◌∷◌, ◌++◌, ℕ, ◌+◌, ◌*◌, leb, eqb, length}
use Rattle.buffers.specs.Positions.{at, table}
use Rattle.checks.specs.Checks.{Check, Verdict, verdict, parameter_checks}
use Rattle.text.specs.Ascii.{ascii}
use Rattle.lesson_file.specs.declared.Parameters.{Parameters}
use Rattle.lesson_file.specs.declared.Lists.{Lists}
use Rattle.lesson_file.specs.declared.Layout.{Layout}

-- ---- numbers and marks

-- a two-byte number, low byte first
unfoldable pub number : List ℕ → ℕ → ℕ
number file p = at file p + 256 * at file (p + 1)

-- `count` two-byte words, one behind the other
unfoldable pub words_from : List ℕ → ℕ → ℕ → List ℕ
words_from file p count = table count (λ i. number file (p + 2 * i))

-- the two letters of the mark stand at p
unfoldable pub marked : List ℕ → ℕ → List ℕ → Bool
marked file p mark = eqb (at file p) (at mark 0) && eqb (at file (p + 1)) (at mark 1)

-- ---- what is asked of a record

-- 19: the file has `size` bytes from p on
abbrev pub whole : List ℕ → ℕ → ℕ → Check
whole file p size = record { holds = leb (p + size) (length file); code = 19; position = p }

-- 18: the mark at p is allowed there
abbrev allowed : List ℕ → ℕ → List ℕ → Check
allowed file p mark = record { holds = marked file p mark; code = 18; position = p }

-- At each record: a whole mark; a mark allowed there; all its bytes, of which there are `size`.
abbrev pub record_checks : List ℕ → ℕ → List ℕ → ℕ → List Check
record_checks file p mark size = whole file p 2 ∷ allowed file p mark ∷ whole file p size ∷ []

-- Checks of a call that is put to a record: its numbers, each with a position of the file.
abbrev pub located : (ℕ → ℕ) → List Check → List Check
located position [] = []
located position (c ∷ cs) = record { holds = c.holds; code = c.code; position = position c.code } ∷ located position cs

-- ---- the records

-- XB and YB have a mark and n share words each
abbrev pub list_size : ℕ → ℕ
list_size n = 2 + 2 * n

module _ (file : List ℕ) (p : ℕ) where
  -- PM: n, k, q
  abbrev pub parameters_at : Parameters
  parameters_at = record { n = at file (p + 2); k = at file (p + 3); q = number file (p + 4) }

  -- It is put to 1, 2 and 3 at once.
  abbrev pub parameters_checks : List Check
  parameters_checks = record_checks file p (ascii "PM") 6 ++ located (λ _. p) (parameter_checks (at file (p + 2)) (at file (p + 3)) (number file (p + 4)))

  -- whether YB stands here
  abbrev pub y_first : Bool
  y_first = marked file p (ascii "YB")

  module _ (n : ℕ) where
    abbrev pub ordered_checks : List ℕ → List ℕ → List Check
    ordered_checks first second = record_checks file p first (list_size n) ++ record_checks file (p + list_size n) second (list_size n)

    -- where they stand
    abbrev pub lists_at : Lists
    lists_at = record { x = cond y_first (p + list_size n) p; y = cond y_first p (p + list_size n); next = record { at = p + list_size n + list_size n } }

    -- They stand in either order, once each.
    abbrev pub lists_checks : List Check
    lists_checks = ordered_checks (cond y_first (ascii "YB") (ascii "XB")) (cond y_first (ascii "XB") (ascii "YB"))

  -- RW: a count from 0 to 1,792, and that many words. A count above 1,792 is refused before its words are asked for.
  abbrev pub word_count : ℕ
  word_count = number file (p + 2)

  abbrev pub words_checks : List Check
  words_checks =
      record_checks file p (ascii "RW") 4
      ++ (record { holds = leb word_count 1792; code = 20; position = p } ∷ whole file p (4 + 2 * word_count) ∷ [])

-- ---- a sample: PM, the two lists, RW

module _ (file : List ℕ) (p : ℕ) where
  -- RW stands behind the lists
  abbrev random : ℕ → ℕ
  random n = (lists_at file p n).next.at

  abbrev pub strings_checks : ℕ → List Check
  strings_checks n = lists_checks file p n ++ words_checks file (random n)

  abbrev pub layout_from : Parameters → Layout
  layout_from parameters =
      record {
        parameters = parameters;
        lists = lists_at file p parameters.n;
        count = word_count file (random parameters.n);
        next = record { at = random parameters.n + (4 + 2 * word_count file (random parameters.n)) };
      }

module _ (file : List ℕ) (p : ℕ) where
  -- where the records of the sample at p lie
  unfoldable pub layout_at : Layout
  layout_at = layout_from file (p + 6) (parameters_at file p)

  unfoldable pub layout_checks : List Check
  layout_checks = parameters_checks file p ++ strings_checks file (p + 6) (at file (p + 2))

  -- the sample's records, if they are whole and its parameters fit
  abbrev pub layout_read : Verdict Layout
  layout_read = verdict layout_checks layout_at

-- what a sample says
pub record Sample : Type 0 where
  pub n : ℕ
  pub k : ℕ
  pub q : ℕ
  pub x : List ℕ
  pub y : List ℕ
  pub words : List ℕ

module _ (file : List ℕ) (l : Layout) where
  unfoldable pub sample_of : Sample
  sample_of =
      record {
        n = l.parameters.n;
        k = l.parameters.k;
        q = l.parameters.q;
        x = words_from file (l.lists.x + 2) l.parameters.n;
        y = words_from file (l.lists.y + 2) l.parameters.n;
        words = words_from file (l.lists.next.at + 4) l.count;
      }
