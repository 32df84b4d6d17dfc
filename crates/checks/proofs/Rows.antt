-- A search over the bits and, within a bit, over its words is one over the words in their order: word i of bit b stands b * per + i behind
-- the start.
use mathlib.Core.Path.{◌≡◌, sym, ap, ◌∙◌}
use mathlib.Core.List.{List}
use Rattle.std.specs.Prelude.{None, Some}
use Prim.Native.Nat.{ℕ, ◌+◌, ◌*◌, ◌<◌, ◌≤◌}
use native.Mathlib.Nat as N
use native.Mathlib.Omega.{arith}
use lib.Arith.{digits_lt}
use lib.ListN.{length, get_or, take, drop, length-drop}
use lib.Seq.{get_or-take, get_or-drop, length-take-le}
use Rattle.checks.specs.Search.{first_from}
use Rattle.checks.specs.Laws.{Searched, search_passes, search_finds, search_ends}

module _ (q start bits per : ℕ) (words : List ℕ) (room : start + bits * per ≤ length words) where
  abbrev pub judged : List ℕ
  judged = take (bits * per) (drop start words)

  count : length judged ≡ bits * per
  count = length-take-le (bits * per) (drop start words) (omega (arith, length-drop start words))

  module _ (b i p : ℕ) (h : b < bits) (l : i < per) (e : p ≡ start + (b * per + i)) where
    before : b * per + i < bits * per
    before = digits_lt h l

    pub inside : p < length words
    inside = omega (arith, before)

    here : b * per + i < length judged
    here = omega (arith, count, before)

    judged-at : get_or judged (b * per + i) 0 ≡ get_or words p 0
    judged-at = get_or-take (bits * per) (drop start words) (b * per + i) 0 before ∙ get_or-drop start words (b * per + i) 0 ∙ ap (λ (j : ℕ). get_or words j 0) (sym e)

    pub passes : get_or words p 0 < q → Searched q start judged (b * per + i) p → Searched q start judged (b * per + i + 1) (p + 1)
    passes s = search_passes q start judged (b * per + i) p here (rw judged-at s)

    pub finds : q ≤ get_or words p 0 → Searched q start judged (b * per + i) p → first_from q start judged ≡ Some p
    finds s = search_finds q start judged (b * per + i) p here (rw judged-at s)

  pub row_ends : (b i : ℕ) → i ≤ per → per ≤ i → b * per + i ≡ (b + 1) * per
  row_ends b i h g = omega (arith, N.add-mul b 1 per)

  pub ends : (b p : ℕ) → b ≤ bits → bits ≤ b → Searched q start judged (b * per) p → first_from q start judged ≡ None
  ends b p h g = search_ends q start judged (b * per) p (omega (arith, count, ap (λ (m : ℕ). m * per) (N.le_antisymm h g)))
