-- Laws of a list of which a part was overwritten.
use Rattle.std.specs.Prelude.{◌≡◌, refl, get_or, set, take}
use Rattle.std.proofs.Common.{sym, ◌∙◌, arith, length-drop, get_or-drop, get_or-append-add, take_all, take-suc, take_at, drop_at, drop-cons}
use Rattle.std.proofs.Math.Path.{ap}
use mathlib.Core.List.{List, [], ◌∷◌, ◌++◌, append_assoc, append-nil}
use Prim.Native.Nat.{ℕ, suc, ◌+◌, ◌-◌, ◌≤◌, ◌<◌}
use Rattle.std.proofs.Math.Nat as N
use Rattle.std.proofs.Math.Numerals.{add-one}
use Rattle.std.proofs.Math.Decide.{dec_le}
use Rattle.std.proofs.Math.ListN.{length, drop, length-append, drop_of_length-le, get_or-append}
use Rattle.std.proofs.lemmas.List.{take-append-le, drop-append-le, set_at}
use Rattle.std.proofs.Math.Seq.{length-take-le, take-length, drop-append-add, drop-drop, append_snoc, paste, paste-zero, paste-suc}
use Rattle.std.proofs.lemmas.List.Edits.{length-paste}
use Rattle.buffers.specs.Overwrite.{overwrite}

-- the library's word for it
pub overwrite_pastes : {A : Type 0} (l : List A) (start : ℕ) (s : List A) → overwrite l start s ≡ paste l start s (length s)
unfolding overwrite
overwrite_pastes {A} l start s = ap (λ (r : List A). take start l ++ r ++ drop (start + length s) l) (sym (take-length s))

-- ---- one element at a time: s is written as far as its first i elements

unfoldable pub written : List ℕ → ℕ → List ℕ → ℕ → List ℕ
written l start s i = paste l start s i

pub overwrite-none : (l : List ℕ) (start : ℕ) → overwrite l start [] ≡ l
unfolding overwrite
overwrite-none l start = sym (paste-zero l start [])

module _ (l : List ℕ) (start : ℕ) (s : List ℕ) where
  pub written_none : l ≡ written l start s 0
  unfolding written
  written_none = paste-zero l start s

  pub written_next : (t : List ℕ) (i v : ℕ) → t ≡ written l start s i → get_or s i 0 ≡ v → start + i < length l → i < length s → set t (start + i) v ≡ written l start s (i + 1)
  unfolding written
  written_next t i v w e h m = rw (w, ← e, add-one i) (paste-suc l start s i 0 h m)

  pub written_all : (i : ℕ) → i ≡ length s → written l start s i ≡ overwrite l start s
  unfolding written
  written_all i e = rw e (sym (overwrite_pastes l start s))

  -- ---- the whole

  pub length-overwrite : start + length s ≤ length l → length (overwrite l start s) ≡ length l
  length-overwrite h = ap length (sym (written_all (length s) refl)) ∙ (unfold written in (length-paste l start s (length s) h (omega arith)))

  -- at the end or past it
  overwrite_past : length l ≤ start → overwrite l start s ≡ l ++ s
  unfolding overwrite
  overwrite_past h = rw (take_all start l h, drop_of_length-le l {i = start + length s} (omega arith), append-nil (l ++ s))

  append-within : (r : List ℕ) → start ≤ length l → overwrite (overwrite l start s) (start + length s) r ≡ overwrite l start (s ++ r)
  unfolding overwrite
  append-within r h =
      let m : length (take start l ++ s) ≡ start + length s = omega (arith, length-append (take start l) s, length-take-le start l h) in
      let k : start + length s + length r ≡ start + length (s ++ r) = omega (arith, length-append s r) in
      let rest : List ℕ = drop (start + length s) l in
      let d : drop (start + length s + length r) (take start l ++ s ++ rest) ≡ drop (start + length (s ++ r)) l = ap (λ (j : ℕ). drop (j + length r) (take start l ++ s ++ rest)) (sym m) ∙ drop-append-add (take start l ++ s) rest (length r) ∙ drop-drop (length r) (start + length s) l ∙ ap (λ (j : ℕ). drop j l) k in
      rw (take_at (take start l ++ s) rest (start + length s) m, d, append_assoc (take start l) s r)

-- one part behind the other
pub overwrite-append : (l : List ℕ) (start : ℕ) (s r : List ℕ) → overwrite (overwrite l start s) (start + length s) r ≡ overwrite l start (s ++ r)
overwrite-append l start s r = go (dec_le start (length l))
  where
    go : Dec (start ≤ length l) → overwrite (overwrite l start s) (start + length s) r ≡ overwrite l start (s ++ r)
    go (yes h) = append-within l start s r h
    go (no g) =
        let h : length l ≤ start = omega arith in
        rw (overwrite_past l start s h, overwrite_past l start (s ++ r) h, overwrite_past (l ++ s) (start + length s) r (omega (arith, length-append l s))) (append_assoc l s r)

-- ---- at the front

pub front : (l s : List ℕ) → overwrite l 0 s ≡ s ++ drop (length s) l
unfolding overwrite
front l s = ap (λ (k : ℕ). s ++ drop k l) (N.zero-add (length s))

module _ (l s : List ℕ) where
  pub take-front : (n : ℕ) → length s ≡ n → take n (overwrite l 0 s) ≡ s
  take-front n e = ap (take n) (front l s) ∙ take_at s (drop (length s) l) n e

  pub drop-front : (n : ℕ) → length s ≡ n → drop n (overwrite l 0 s) ≡ drop n l
  drop-front n e = ap (drop n) (front l s) ∙ drop_at s (drop (length s) l) n e ∙ ap (λ (m : ℕ). drop m l) e

  -- a part of it
  pub front-part : (a c : ℕ) → a + c ≤ length s → take c (drop a (overwrite l 0 s)) ≡ take c (drop a s)
  front-part a c h =
      ap (λ (m : List ℕ). take c (drop a m)) (front l s) ∙ ap (take c) (drop-append-le a s (drop (length s) l) (omega arith))
      ∙ take-append-le c (drop a s) (drop (length s) l) (omega (arith, length-drop a s))

  pub front_below : (i : ℕ) → i < length s → get_or (overwrite l 0 s) i 0 ≡ get_or s i 0
  front_below i h = ap (λ (k : List ℕ). get_or k i 0) (front l s) ∙ get_or-append s (drop (length s) l) 0 i h

  -- one element more behind it
  pub front_snoc : (v : ℕ) → length s < length l → set (overwrite l 0 s) (length s) v ≡ overwrite l 0 (s ++ (v ∷ []))
  front_snoc v h =
      let rest : List ℕ = drop (suc (length s)) l in
      let e : length (s ++ (v ∷ [])) ≡ suc (length s) = omega (arith, length-append s (v ∷ [])) in
      rw (front l s, front l (s ++ (v ∷ [])), e, drop-cons l (length s) 0 h)
      (set_at s (get_or l (length s) 0) rest v (length s) refl ∙ sym (append_snoc s v rest))

  pub front_from : (i : ℕ) → length s ≤ i → get_or (overwrite l 0 s) i 0 ≡ get_or l i 0
  front_from i h =
      let e : i ≡ length s + (i - length s) = omega arith in
      ap (λ (k : List ℕ). get_or k i 0) (front l s) ∙ ap (λ (j : ℕ). get_or (s ++ drop (length s) l) j 0) e ∙ get_or-append-add s (drop (length s) l) (i - length s) 0
      ∙ get_or-drop (length s) l (i - length s) 0 ∙ ap (λ (j : ℕ). get_or l j 0) (sym e)

  -- of a list of which only the front was changed before
  pub front_again : (t : List ℕ) (n : ℕ) → length s ≡ n → drop n t ≡ drop n l → overwrite t 0 s ≡ overwrite l 0 s
  front_again t n e d = front t s ∙ ap (λ (r : List ℕ). s ++ r) (rw e d) ∙ sym (front l s)

-- ---- element after element in front, as many as there are

module _ (l s : List ℕ) (i : ℕ) where
  pub taken_next : (t : List ℕ) (v : ℕ) → t ≡ overwrite l 0 (take i s) → v ≡ get_or s i 0 → i < length s → i < length l → set t i v ≡ overwrite l 0 (take (i + 1) s)
  taken_next t v e d h m =
      let n = length-take-le i s (omega arith) in
      rw (e, d, add-one i, take-suc s i 0 h, ← front_snoc l (take i s) (get_or s i 0) (omega arith), n)

  pub taken-all : length s ≤ i → overwrite l 0 (take i s) ≡ overwrite l 0 (take (i + 1) s)
  taken-all h = ap (overwrite l 0) (take_all i s h ∙ sym (take_all (i + 1) s (omega arith)))

-- the one front over the other, which is not longer
pub front_over : (l s r : List ℕ) → length s ≤ length r → overwrite (overwrite l 0 s) 0 r ≡ overwrite l 0 r
front_over l s r h =
    let d : ℕ = length r - length s in
    let e : length r ≡ length s + d = omega arith in
    front_again l r (overwrite l 0 s) (length r) refl
    (rw (e, front l s) (drop-append-add s (drop (length s) l) d ∙ drop-drop d (length s) l))
