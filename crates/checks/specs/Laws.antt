-- Laws of searches, and of going through a list of checks.
use Rattle.std.specs.Prelude.{◌≡◌, Option, Some, None, is_none, unwrap_or, option_map, position, nat_lt, not, Bool, cond, ◌&&◌, leb, length, get_or, take, drop}
use Rattle.std.specs.List.{position_or_len}
use Rattle.std.proofs.Math.Path.{refl, ap}
use Rattle.std.proofs.Common.{sym, ap₂, ◌∙◌, le_of_suc-le-suc, arith, length-take, length-drop, drop_of_length-le, drop-cons}
use Rattle.std.proofs.Math.Bool.{true, false}
use Rattle.std.proofs.lemmas.Bool.{false≢true}
use mathlib.Core.List.{List, [], ◌∷◌, ◌++◌, append-nil}
use Prim.Native.Nat.{ℕ, zero, suc, suc-le-suc, ◌+◌, ◌≤◌, ◌<◌}
use Rattle.std.proofs.Math.Numerals.{add-one}
use Rattle.std.proofs.Math.Decide.{dec_le}
use borrow.Author.Tests.{leb-true, le-leb, lt-leb, ltb-true, lt-ltb, le-ltb, not-true, not-false}
use Rattle.std.proofs.Math.Dec.{ltb}
use Rattle.residue.specs.Residue.{EachBelow}
use Rattle.checks.specs.Search.{first_from}
use Rattle.checks.specs.Checks.{Check, Verdict, accepted, refused, verdict, checked, settled, within, all_below_from, word_checks}

-- ---- a search that goes from element to element

-- in a list that begins at position `start`, it came past the first i, to position p
unfoldable pub Searched : ℕ → ℕ → List ℕ → ℕ → ℕ → Type 0
Searched limit start l i p = first_from limit start l ≡ first_from limit p (drop i l)

module _ (limit start : ℕ) (l : List ℕ) where
  pub search_begins : Searched limit start l 0 start
  unfolding Searched
  search_begins = refl

  pub search_passes : (i p : ℕ) → i < length l → get_or l i 0 < limit → Searched limit start l i p → Searched limit start l (i + 1) (p + 1)
  unfolding Searched first_from
  search_passes i p h s e = e ∙ ap (first_from limit p) (drop-cons l i 0 h) ∙ rw (lt-ltb (get_or l i 0) limit s, add-one i, add-one p)

  pub search_finds : (i p : ℕ) → i < length l → limit ≤ get_or l i 0 → Searched limit start l i p → first_from limit start l ≡ Some p
  unfolding Searched first_from
  search_finds i p h s e = e ∙ ap (first_from limit p) (drop-cons l i 0 h) ∙ rw (le-ltb (get_or l i 0) limit s)

  pub search_ends : (i p : ℕ) → length l ≤ i → Searched limit start l i p → first_from limit start l ≡ None
  unfolding Searched first_from
  search_ends i p h e = e ∙ ap (first_from limit p) (drop_of_length-le l h)

-- ---- what a search that finds nothing says

module _ (limit : ℕ) where
  pub none-each-below : (l : List ℕ) (s : ℕ) → is_none (first_from limit s l) ≡ true → EachBelow limit l
  unfolding first_from
  none-each-below [] s e = λ i h. absurd (omega arith)
  none-each-below (x ∷ l) s e = go (none-each-below l (suc s)) (ltb x limit) refl e
    where
      go : (is_none (first_from limit (suc s) l) ≡ true → EachBelow limit l) → (b : Bool) → ltb x limit ≡ b → is_none (cond b (first_from limit (suc s) l) (Some s)) ≡ true → EachBelow limit (x ∷ l)
      go ih true d f zero h = ltb-true x limit d
      go ih true d f (suc i) h = ih f i (le_of_suc-le-suc h)
      go ih false d f i h = absurd (false≢true f)

  pub each-below-none : (l : List ℕ) (s : ℕ) → EachBelow limit l → first_from limit s l ≡ None
  unfolding first_from
  each-below-none [] s h = refl
  each-below-none (x ∷ l) s h = rw (lt-ltb x limit (h 0 (omega arith))) (each-below-none l (suc s) (λ i m. h (suc i) (suc-le-suc m)))

-- ---- tests that say the same, and tests of two parts

pub leb_same : (a b c d : ℕ) → (a ≤ b → c ≤ d) → (c ≤ d → a ≤ b) → leb a b ≡ leb c d
leb_same a b c d f g = go (dec_le a b)
  where
    go : Dec (a ≤ b) → leb a b ≡ leb c d
    go (yes h) = le-leb a b h ∙ sym (le-leb c d (f h))
    go (no h) =
        let l : c ≤ d → ⊥ = λ m. h (g m) in
        lt-leb a b (omega arith) ∙ sym (lt-leb c d (omega arith))

module _ (limit : ℕ) where
  -- the library's search for an element that fails the test
  first_from_is : (i : ℕ) (l : List ℕ) → first_from limit i l ≡ option_map (λ p. p + i) (position (λ x. not (ltb x limit)) l)
  unfolding first_from
  first_from_is i [] = refl
  first_from_is i (x ∷ l) = go (ltb x limit) refl (first_from_is (suc i) l)
    where
      passed : ℕ
      passed = position_or_len (λ x. not (ltb x limit)) l

      next : (b : Bool) → option_map (λ p. p + suc i) (cond b (Some passed) None) ≡ option_map (λ p. p + i) (cond b (Some (1 + passed)) None)
      next true = let e : passed + suc i ≡ 1 + passed + i = omega arith in ap Some e
      next false = refl

      later : nat_lt (1 + passed) (suc (length l)) ≡ nat_lt passed (length l)
      later = leb_same (suc (1 + passed)) (suc (length l)) (suc passed) (length l) (λ h. omega arith) (λ h. omega arith)

      go : (b : Bool) → ltb x limit ≡ b → first_from limit (suc i) l ≡ option_map (λ p. p + suc i) (position (λ x. not (ltb x limit)) l) → cond b (first_from limit (suc i) l) (Some i) ≡ option_map (λ p. p + i) (position (λ x. not (ltb x limit)) (x ∷ l))
      go true e ih = rw e (ih ∙ next (nat_lt passed (length l)) ∙ ap (λ (b : Bool). option_map (λ p. p + i) (cond b (Some (1 + passed)) None)) (sym later))
      go false e ih = rw (e, lt-ltb 0 (suc (length l)) (omega arith)) (ap (λ (p : ℕ). Some p) (omega arith))

  pub first_position : (l : List ℕ) → first_from limit 0 l ≡ position (λ x. not (ltb x limit)) l
  first_position l = first_from_is 0 l ∙ from-front (position (λ x. not (ltb x limit)) l)
    where
      from-front : (o : Option ℕ) → option_map (λ p. p + 0) o ≡ o
      from-front None = refl
      from-front (Some p) = ap Some (omega arith)

pub and_true : (s t : Bool) → s && t ≡ true → (s ≡ true) × (t ≡ true)
and_true true t e = (refl, e)
and_true false t e = absurd (false≢true e)

pub true_within : (a b x : ℕ) → a ≤ x → x ≤ b → within a b x ≡ true
true_within a b x h l = rw (le-leb a x h, le-leb x b l)

pub within_true : (a b x : ℕ) → within a b x ≡ true → (a ≤ x) × (x ≤ b)
within_true a b x h =
    let e = and_true (leb a x) (leb x b) h in
    (leb-true a x e.0, leb-true x b e.1)

-- ---- one check after the other

pub not_both : {A : Type 0} {a : A} {code position : ℕ} → ◌≡◌ {A = Verdict A} (accepted a) (refused code position) → ⊥
not_both d = let z : ◌≡◌ {A = ℕ} 0 1 = cc in omega arith

pub same_answer : {A : Type 0} {a b : A} → ◌≡◌ {A = Verdict A} (accepted a) (accepted b) → a ≡ b
same_answer d = cc

module _ {A : Type 0} (a : A) where
  pub pass : (c : Check) (cs : List Check) → c.holds ≡ true → verdict (c ∷ cs) a ≡ verdict cs a
  unfolding verdict
  pass c cs h = rw h

  pub fail : (c : Check) (cs : List Check) → c.holds ≡ false → verdict (c ∷ cs) a ≡ refused c.code c.position
  unfolding verdict
  fail c cs h = rw h

  pub pass-none : (code limit start : ℕ) (l : List ℕ) (cs : List Check) → first_from limit start l ≡ None → verdict (all_below_from code limit start l ∷ cs) a ≡ verdict cs a
  pass-none code limit start l cs h = pass (all_below_from code limit start l) cs (ap is_none h)

  pub fail-some : (code limit start : ℕ) (l : List ℕ) (cs : List Check) (i : ℕ) → first_from limit start l ≡ Some i → verdict (all_below_from code limit start l ∷ cs) a ≡ refused code i
  fail-some code limit start l cs i h = fail (all_below_from code limit start l) cs (ap is_none h) ∙ ap (refused code) (ap (λ (o : Option ℕ). unwrap_or o 0) h)

  pub pass_all : verdict [] a ≡ accepted a
  unfolding verdict
  pass_all = refl

-- the first j checks held
abbrev pub Past : List Check → ℕ → Type 0
Past cs j = checked cs ≡ checked (drop j cs)

-- ---- what the code's own test or search says

pub test-holds : {r t : Bool} → r ≡ t → not r ≡ false → t ≡ true
test-holds {r} e n = sym e ∙ not-false r n

pub test_fails : {r t : Bool} → r ≡ t → not r ≡ true → t ≡ false
test_fails {r} e n = sym e ∙ not-true r n

pub search_none : {f o : Option ℕ} → f ≡ o → f ≡ None → o ≡ None
search_none e g = sym e ∙ g

pub search_some : {f o : Option ℕ} {i : ℕ} → f ≡ o → f ≡ Some i → o ≡ Some i
search_some e g = sym e ∙ g

-- ---- a whole list of checks

-- every check holds
abbrev pub Hold : List Check → Type 0
Hold [] = Unit
Hold (c ∷ cs) = (c.holds ≡ true) × Hold cs

-- a list of checks in two parts
pub hold-front : (cs ds : List Check) → Hold (cs ++ ds) → Hold cs
hold-front [] ds h = tt
hold-front (c ∷ cs) ds h = (h.0, hold-front cs ds h.1)

pub hold-rest : (cs ds : List Check) → Hold (cs ++ ds) → Hold ds
hold-rest [] ds h = h
hold-rest (c ∷ cs) ds h = hold-rest cs ds h.1

pub hold-both : (cs ds : List Check) → Hold cs → Hold ds → Hold (cs ++ ds)
hold-both [] ds h l = l
hold-both (c ∷ cs) ds h l = (h.0, hold-both cs ds h.1 l)

pub accepts : {A : Type 0} (a : A) (cs : List Check) → Hold cs → verdict cs a ≡ accepted a
accepts a [] h = pass_all a
accepts a (c ∷ cs) h = pass a c cs h.0 ∙ accepts a cs h.1

pub accepted-holds : {A : Type 0} (a b : A) (cs : List Check) → verdict cs a ≡ accepted b → Hold cs
accepted-holds a b [] e = tt
accepted-holds a b (c ∷ cs) e = go (accepted-holds a b cs) c.holds refl
  where
    go : (verdict cs a ≡ accepted b → Hold cs) → (t : Bool) → c.holds ≡ t → Hold (c ∷ cs)
    go ih true h = (h, ih (sym (pass a c cs h) ∙ e))
    go ih false h =
        absurd (not_both (sym e ∙ fail a c cs h))

-- an accepted call answers what its checks were put before
pub accepted-answer : {A : Type 0} (a b : A) (cs : List Check) → verdict cs a ≡ accepted b → b ≡ a
accepted-answer a b cs e = same_answer (sym e ∙ accepts a cs (accepted-holds a b cs e))

-- where the first of two parts holds, the second decides
pub passes-part : {A : Type 0} (a : A) (cs ds : List Check) → Hold cs → verdict (cs ++ ds) a ≡ verdict ds a
passes-part a [] ds h = refl
passes-part a (c ∷ cs) ds h = pass a c (cs ++ ds) h.0 ∙ passes-part a cs ds h.1

-- what the second parts decide alike, the whole lists do
pub same-behind : {A : Type 0} (a : A) (cs ds es : List Check) → verdict ds a ≡ verdict es a → verdict (cs ++ ds) a ≡ verdict (cs ++ es) a
same-behind a [] ds es e = e
same-behind a (c ∷ cs) ds es e = go (same-behind a cs ds es e) c.holds refl
  where
    go : verdict (cs ++ ds) a ≡ verdict (cs ++ es) a → (t : Bool) → c.holds ≡ t → verdict (c ∷ (cs ++ ds)) a ≡ verdict (c ∷ (cs ++ es)) a
    go ih true h = pass a c (cs ++ ds) h ∙ ih ∙ sym (pass a c (cs ++ es) h)
    go ih false h = fail a c (cs ++ ds) h ∙ sym (fail a c (cs ++ es) h)

-- where the second holds, the first decides
pub passes-behind : {A : Type 0} (a : A) (cs ds : List Check) → Hold ds → verdict (cs ++ ds) a ≡ verdict cs a
passes-behind a cs ds h = same-behind a cs ds [] (accepts a ds h ∙ sym (pass_all a)) ∙ ap (λ (es : List Check). verdict es a) (append-nil cs)

-- a refusal does not depend on what the call would answer, nor on the checks behind
pub refuses : {A B : Type 0} (a : A) (b : B) (code position : ℕ) (cs ds : List Check) → verdict cs a ≡ refused code position → verdict (cs ++ ds) b ≡ refused code position
refuses a b code position [] ds e = absurd (not_both (sym (pass_all a) ∙ e))
refuses {A} {B} a b code position (c ∷ cs) ds e = go (refuses a b code position cs ds) c.holds refl
  where
    go : (verdict cs a ≡ refused code position → verdict (cs ++ ds) b ≡ refused code position) → (t : Bool) → c.holds ≡ t → verdict (c ∷ (cs ++ ds)) b ≡ refused code position
    go ih true h = pass b c (cs ++ ds) h ∙ ih (sym (pass a c cs h) ∙ e)
    go ih false h =
        let d : ◌≡◌ {A = Verdict A} (refused c.code c.position) (refused code position) = sym (fail a c cs h) ∙ e in
        let i : c.code ≡ code = cc in
        let j : c.position ≡ position = cc in
        fail b c (cs ++ ds) h ∙ rw (i, j)

pub refuses-alike : {A B : Type 0} (a : A) (b : B) (code position : ℕ) (cs : List Check) → verdict cs a ≡ refused code position → verdict cs b ≡ refused code position
refuses-alike a b code position cs e = ap (λ (ds : List Check). verdict ds b) (sym (append-nil cs)) ∙ refuses a b code position cs [] e

pub settled-answer : {A B : Type 0} (v : Verdict A) (before after : B) → (settled v before after).answer ≡ v
settled-answer (accepted a) before after = refl
settled-answer (refused c p) before after = refl

-- what an outcome says of the verdict
pub settled-done : {A B : Type 0} (v : Verdict A) (before after : B) {a : A} {b : B} → record { answer = accepted a; buffers = b } ≡ settled v before after → (v ≡ accepted a) × (b ≡ after)
settled-done (accepted a) before after e = (sym (ap (λ o. o.answer) e), ap (λ o. o.buffers) e)
settled-done (refused c p) before after e = absurd (not_both (ap (λ o. o.answer) e))

pub settled-refused : {A B : Type 0} (v : Verdict A) (before after : B) {b : B} {code position : ℕ} → record { answer = refused code position; buffers = b } ≡ settled v before after → (v ≡ refused code position) × (b ≡ before)
settled-refused (accepted a) before after e = absurd (not_both (sym (ap (λ o. o.answer) e)))
settled-refused (refused c p) before after e = (sym (ap (λ o. o.answer) e), ap (λ o. o.buffers) e)

-- a call that passes every check is accepted, and leaves what it wrote
pub settled-accepted : {A B : Type 0} (a : A) (cs : List Check) (before after : B) → Hold cs → settled (verdict cs a) before after ≡ record { answer = accepted a; buffers = after }
settled-accepted {A} a cs before after h = ap (λ (v : Verdict A). settled v before after) (accepts a cs h)

-- a call that its first checks refuse leaves everything as it was, whatever the checks behind and what it would write
pub settled-refuses : {A B : Type 0} (a : A) (cs ds : List Check) (before after : B) (code position : ℕ) → checked cs ≡ refused code position → settled (verdict (cs ++ ds) a) before after ≡ record { answer = refused code position; buffers = before }
settled-refuses {A} a cs ds before after code position e = ap (λ (v : Verdict A). settled v before after) (refuses tt a code position cs ds e)

-- where the first checks hold, what is behind them and what the call would write matter, and else neither does
pub settled-behind : {A B : Type 0} (a : A) (cs ds es : List Check) (before s t : B) → (Hold cs → (ds ≡ es) × (s ≡ t)) → settled (verdict (cs ++ ds) a) before s ≡ settled (verdict (cs ++ es) a) before t
settled-behind {A} {B} a cs ds es before s t e = go (checked cs) refl
  where
    go : (v : Verdict Unit) → checked cs ≡ v → settled (verdict (cs ++ ds) a) before s ≡ settled (verdict (cs ++ es) a) before t
    go (accepted u) h = let f = e (accepted-holds tt u cs h) in ap₂ (λ (fs : List Check) (b : B). settled (verdict (cs ++ fs) a) before b) f.0 f.1
    go (refused code position) h = settled-refuses a cs ds before s code position h ∙ sym (settled-refuses a cs es before t code position h)

-- what an accepted call keeps, every call keeps
pub settled_keeps : {A B C : Type 0} (v : Verdict A) (before after : B) (view : B → C) → view after ≡ view before → view (settled v before after).buffers ≡ view before
settled_keeps (accepted a) before after view e = e
settled_keeps (refused c p) before after view e = refl

-- what two calls with one verdict leave, the one what the other left
pub settled-twice : {A B C : Type 0} (v : Verdict A) (before after : B) (view : C → B) (s t : C) → view s ≡ before → view t ≡ (settled v before after).buffers → view (settled v s t).buffers ≡ (settled v before after).buffers
settled-twice (accepted a) before after view s t e d = d
settled-twice (refused c p) before after view s t e d = e

-- what an accepted call would write matters only where it is accepted
pub settled_same : {A B : Type 0} (v : Verdict A) (before s t : B) → ((a : A) → v ≡ accepted a → s ≡ t) → settled v before s ≡ settled v before t
settled_same (accepted a) before s t e = ap (settled (accepted a) before) (e a refl)
settled_same (refused c p) before s t e = refl

-- where there are words to judge, checks 8 and 9 look at the `count` from `start` on only
pub words_around : (start count q : ℕ) → 0 < count → (words words' : List ℕ) → take count (drop start words) ≡ take count (drop start words') → word_checks start count q words ≡ word_checks start count q words'
words_around start count q above words words' e =
    let l : leb (start + count) (length words) ≡ leb (start + count) (length words') = judged words ∙ ap (λ (l : List ℕ). leb count (length l)) e ∙ sym (judged words') in
    ap₂ (λ (b : Bool) (l : List ℕ). record { holds = b; code = 8; position = 0 } ∷ all_below_from 9 q start l ∷ []) l e
  where
    judged : (l : List ℕ) → leb (start + count) (length l) ≡ leb count (length (take count (drop start l)))
    judged l =
        let m = length-take count (drop start l) in
        let d = length-drop start l in
        leb_same (start + count) (length l) count (length (take count (drop start l))) (λ h. omega arith) (λ h. omega arith)
