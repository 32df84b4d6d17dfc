-- Laws of records: what the code's tests say, checks at a position of the file, and words that are read one after the other.
use Rattle.std.specs.Prelude.{◌≡◌, refl, Bool, true, false, cond, ◌&&◌, List, [], ◌∷◌, ℕ, ◌+◌, ◌*◌, ◌-◌, ◌≤◌, ◌<◌, leb, length, set, take}
use Rattle.std.proofs.Math.Path.{sym}
use Rattle.std.proofs.Common.{ap, ◌∙◌, arith, le-leb, eq-eqb, ne_eqb}
use Rattle.std.proofs.Math.Decide.{dec_le}
use Rattle.std.proofs.lemmas.Bool.{lt-leb}
use Rattle.std.proofs.Math.Dec.{eqb}
use Rattle.std.proofs.Math.ListN.{get_or-eq_default}
use Rattle.buffers.specs.Overwrite.{overwrite}
use Rattle.buffers.specs.Laws.{take-front, length-overwrite}
use Rattle.buffers.specs.Positions.{at}
use Rattle.buffers.specs.PositionLaws.{length-table}
use Rattle.buffers.specs.Rows.{values-none, values-next, values-all}
use Rattle.checks.specs.Checks.{Check, Verdict, refused, verdict}
use Rattle.checks.specs.Laws.{Hold, not_both, pass, fail, pass_all}
use Rattle.text.specs.Ascii.{ascii}
use Rattle.lesson_file.specs.Records.{number, words_from, marked, located, y_first, list_size, ordered_checks, lists_at, lists_checks}
use Rattle.lesson_file.specs.declared.Lists.{Lists}

-- ---- the code's tests

and_false : (b : Bool) → b && false ≡ false
and_false true = refl
and_false false = refl

module _ (file : List ℕ) (p : ℕ) (mark : List ℕ) where
  pub letter_differs : (at file p ≡ at mark 0 → ⊥) → false ≡ marked file p mark
  unfolding marked
  letter_differs h = sym (ap (λ (b : Bool). b && eqb (at file (p + 1)) (at mark 1)) (ne_eqb _ _ h))

  pub letter_agrees : at file p ≡ at mark 0 → eqb (at file (p + 1)) (at mark 1) ≡ marked file p mark
  unfolding marked
  letter_agrees h = sym (ap (λ (b : Bool). b && eqb (at file (p + 1)) (at mark 1)) (eq-eqb _ _ h))

  pub mark_missing : length file < p + 2 → eqb 0 (at mark 1) ≡ false → false ≡ marked file p mark
  unfolding marked
  mark_missing h e = sym (ap (λ (b : Bool). eqb (at file p) (at mark 0) && b) (ap (λ (a : ℕ). eqb a (at mark 1)) (get_or-eq_default file 0 (omega arith)) ∙ e) ∙ and_false (eqb (at file p) (at mark 0)))

-- `size` bytes from p on
module _ (bytes p size : ℕ) where
  pub bytes_left : p ≤ bytes → leb size (bytes - p) ≡ leb (p + size) bytes
  bytes_left h = go (dec_le size (bytes - p))
    where
      go : Dec (size ≤ bytes - p) → leb size (bytes - p) ≡ leb (p + size) bytes
      go (yes l) = le-leb size (bytes - p) l ∙ sym (le-leb (p + size) bytes (omega arith))
      go (no l) = lt-leb size (bytes - p) (omega arith) ∙ sym (lt-leb (p + size) bytes (omega arith))

  pub bytes_missing : bytes < p → false ≡ leb (p + size) bytes
  bytes_missing h = sym (lt-leb (p + size) bytes (omega arith))

-- the two lists, if YB comes first or not
module _ (file : List ℕ) (p n : ℕ) where
  abbrev in_order : Bool → Verdict Lists
  in_order b =
      verdict (ordered_checks file p n (cond b (ascii "YB") (ascii "XB")) (cond b (ascii "XB") (ascii "YB")))
      record { x = cond b (p + list_size n) p; y = cond b p (p + list_size n); next = record { at = p + list_size n + list_size n } }

  pub in_order_lem : {r : Bool} (b : Bool) → r ≡ y_first file p → r ≡ b → in_order b ≡ verdict (lists_checks file p n) (lists_at file p n)
  in_order_lem b e d = ap in_order (sym d ∙ e)

-- ---- checks that are refused at a position of the file

module _ (position-of : ℕ → ℕ) where
  pub located-holds : (cs : List Check) → Hold cs → Hold (located position-of cs)
  located-holds [] h = tt
  located-holds (c ∷ cs) h = (h.0, located-holds cs h.1)

  pub holds-located : (cs : List Check) → Hold (located position-of cs) → Hold cs
  holds-located [] h = tt
  holds-located (c ∷ cs) h = (h.0, holds-located cs h.1)

  pub located-refuses : {A B : Type 0} (a : A) (b : B) (code position : ℕ) (cs : List Check) → verdict cs a ≡ refused code position → verdict (located position-of cs) b ≡ refused code (position-of code)
  located-refuses a b code position [] e = absurd (not_both (sym (pass_all a) ∙ e))
  located-refuses {A} {B} a b code position (c ∷ cs) e = go (located-refuses a b code position cs) c.holds refl
    where
      go : (verdict cs a ≡ refused code position → verdict (located position-of cs) b ≡ refused code (position-of code)) → (t : Bool) → c.holds ≡ t → verdict (located position-of (c ∷ cs)) b ≡ refused code (position-of code)
      go ih true h = pass b _ (located position-of cs) h ∙ ih (sym (pass a c cs h) ∙ e)
      go ih false h =
          let d : ◌≡◌ {A = Verdict A} (refused c.code c.position) (refused code position) = sym (fail a c cs h) ∙ e in
          let i : c.code ≡ code = cc in
          fail b _ (located position-of cs) h ∙ ap (λ (m : ℕ). refused m (position-of m)) i

-- ---- words that are read one after the other

module _ (file : List ℕ) (p : ℕ) where
  pub length-words : (count : ℕ) → length (words_from file p count) ≡ count
  unfolding words_from
  length-words count = length-table count _

  module _ (l : List ℕ) where
    pub words-none : l ≡ overwrite l 0 (words_from file p 0)
    unfolding words_from
    words-none = values-none l _

    pub words-next : (i v : ℕ) (t : List ℕ) → t ≡ overwrite l 0 (words_from file p i) → v ≡ number file (p + 2 * i) → i < length l → set t i v ≡ overwrite l 0 (words_from file p (i + 1))
    unfolding words_from
    words-next = values-next l _

    pub words-all : (i count : ℕ) (t : List ℕ) → i ≡ count → t ≡ overwrite l 0 (words_from file p i) → t ≡ overwrite l 0 (words_from file p count)
    unfolding words_from
    words-all = values-all l _

    module _ (count : ℕ) (t : List ℕ) (e : t ≡ overwrite l 0 (words_from file p count)) where
      pub words-taken : take count t ≡ words_from file p count
      words-taken = ap (take count) e ∙ take-front l (words_from file p count) count (length-words count)

      pub words-length : count ≤ length l → length t ≡ length l
      words-length h = ap length e ∙ length-overwrite l 0 (words_from file p count) (omega (arith, length-words count))
