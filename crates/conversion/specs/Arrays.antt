-- What the functions below the call ask of their arguments, and what their arrays hold.
use Rattle.std.specs.Prelude.{◌≡◌, List, ◌++◌, ℕ, ◌+◌, ◌^◌, ◌≤◌, ◌<◌, length, is_none, set, take, drop}
use Rattle.std.proofs.Common.{ap, ◌∙◌, arith, leb-true, le-leb, length-set, length-append, length-take, length-drop, get_or-append-add, get_or-take, get_or-drop}
use Rattle.std.proofs.Math.ListN.{get_or-append}
use Rattle.residue.specs.Residue.{EachBelow}
use Rattle.buffers.specs.Positions.{at, after, Same, Below}
use Rattle.buffers.specs.PositionLaws.{set_agrees}
use Rattle.checks.specs.Checks.{word_checks}
use Rattle.checks.specs.Laws.{Hold, none-each-below, each-below-none}
use Rattle.secrecy.specs.Secrecy.{Full, between}

-- eight words, of which the first n are those of f
pub record Holds (n : ℕ) (f : ℕ → ℕ) (a : List ℕ) : Type 0 where
  pub eight : length a ≡ 8
  pub same : Same n (at a) f

-- filled from the front
pub holds-next : (i v : ℕ) (f : ℕ → ℕ) (a : List ℕ) → i < 8 → v ≡ f i → Holds i f a → Holds (i + 1) f (set a i v)
holds-next i v f a l e A =
    record { eight = length-set a i v ∙ A.eight; same = λ j m. set_agrees a i v f (omega (arith, A.eight)) e j (λ d. A.same j (omega arith)) }

-- the list has `count` words from `start` on, each below q
pub record Drawn (q start count : ℕ) (words : List ℕ) : Type 0 where
  pub room : start + count ≤ length words
  pub below : Below q count (after start (at words))

-- q is above 2, so that a bit is below it, and small enough for the arithmetic
pub record Modulus (q : ℕ) : Type 0 where
  pub large : 2 < q
  pub small : q < 2 ^ 31

-- n of the words, from s on, which is `skipped` behind the start
pub drawn_part : {q start count : ℕ} {words : List ℕ} (s skipped n : ℕ) → s ≡ start + skipped → skipped + n ≤ count → Drawn q start count words → Drawn q s n words
drawn_part {start = start} s skipped n e h d =
    record { room = omega (arith, d.room); below = λ i l. let k : s + i ≡ start + (skipped + i) = omega arith in rw k (d.below (skipped + i) (omega arith)) }

-- words that pass checks 8 and 9, and the reverse
module _ (q start count : ℕ) (words : List ℕ) where
  pub taken_at : (i : ℕ) → i < count → at (take count (drop start words)) i ≡ at words (start + i)
  taken_at i l = get_or-take count (drop start words) i 0 l ∙ get_or-drop start words i 0

  pub words_drawn : Hold (word_checks start count q words) → Drawn q start count words
  words_drawn h =
      let e : start + count ≤ length words = leb-true _ _ h.0 in
      let m = length-take count (drop start words) in
      let d = length-drop start words in
      record { room = e; below = λ i l. rw (← taken_at i l) (none-each-below q (take count (drop start words)) start h.1.0 i (omega arith)) }

  pub drawn_words : Drawn q start count words → Hold (word_checks start count q words)
  drawn_words d = (le-leb _ _ d.room, (ap is_none (each-below-none q (take count (drop start words)) start below), tt))
    where
      below : EachBelow q (take count (drop start words))
      below i l =
          let m : i < count = omega (arith, length-take count (drop start words)) in
          rw (taken_at i m) (d.below i m)

-- a full list, alone and between others
pub full_drawn : {q count : ℕ} {words : List ℕ} → Full q count words → Drawn q 0 count words
full_drawn f = record { room = omega (arith, f.count); below = λ i l. f.below (0 + i) (omega (arith, f.count)) }

pub between_drawn : {q count : ℕ} {words : List ℕ} → Full q count words → (before behind : List ℕ) → Drawn q (length before) count (between before words behind)
between_drawn {q} {count} {words} f before behind =
    let e = length-append before (words ++ behind) in
    let d = length-append words behind in
    record {
      room = omega (arith, f.count);
      below = λ i l. rw (get_or-append-add before (words ++ behind) i 0, get_or-append words behind 0 i (omega (arith, f.count))) (f.below i (omega (arith, f.count)));
    }
