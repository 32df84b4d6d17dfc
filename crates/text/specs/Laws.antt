-- Laws of text: pieces one behind the other, and how long they are.
use Rattle.std.specs.Prelude.{cond, true, false, ◌≡◌, refl, ℕ, zero, suc, ◌+◌, ◌*◌, ◌/◌, ◌%◌, ◌^◌, ◌≤◌, ◌<◌, ltb, ℤ, pos, negsuc, nat_abs, length, get_or, set, take, drop}
use Rattle.std.proofs.Common.{true≢false, sym, ap, ◌∙◌, suc-le-suc, not-suc-le-zero, pow-suc, add-one, arith, ltb-true, lt-ltb, le-ltb, length-append, take-append-drop}
use mathlib.Core.List.{List, [], ◌∷◌, ◌++◌, map, append_assoc, append-nil, map-append}
use Rattle.std.proofs.Math.Decide.{dec_lt}
use Rattle.std.proofs.Math.Seq.{take-suc, append_snoc}
use Rattle.std.proofs.lemmas.List.{set_split}
use Rattle.std.specs.Int.Signed.{lt_z}
use Rattle.residue.specs.Residue.{EachBelow}
use Rattle.buffers.specs.Overwrite.{overwrite}
use Rattle.buffers.specs.Laws.{overwrite-none, overwrite-append, length-overwrite}
use Rattle.text.specs.Ascii.{ascii}
use Rattle.text.specs.declared.Writer.{Writer}
use Rattle.text.specs.Text.{digits, decimal, signed, spaced, line, Wrote, HasRoom, Written}

-- ---- what was written

pub wrote_nothing : (t : List ℕ) (a : ℕ) → Wrote t a [] t a
wrote_nothing t a = (sym (overwrite-none t a), omega arith)

overwrite_byte : (t : List ℕ) (a v : ℕ) → a < length t → set t a v ≡ overwrite t a (v ∷ [])
unfolding overwrite
overwrite_byte t a v h = rw (add-one a) (set_split t a v h ∙ sym (append_snoc (take a t) v (drop (suc a) t)))

-- one piece behind the other
pub wrote_then : (t : List ℕ) (a : ℕ) (p r : List ℕ) {u v : List ℕ} {b e : ℕ} → Wrote t a p u b → Wrote u b r v e → Wrote t a (p ++ r) v e
wrote_then t a p r (d, f) (g, k) = (g ∙ rw (d, f) (overwrite-append t a p r), omega (arith, length-append p r))

pub wrote-length : (t : List ℕ) (a : ℕ) (p : List ℕ) {u : List ℕ} {b : ℕ} → a + length p ≤ length t → Wrote t a p u b → length u ≡ length t
wrote-length t a p h w = ap length w.0 ∙ length-overwrite t a p h

-- one byte behind it
pub wrote_byte : (t : List ℕ) (a : ℕ) (p : List ℕ) {u : List ℕ} {b : ℕ} (v : ℕ) → a + length p < length t → Wrote t a p u b → Wrote t a (p ++ (v ∷ [])) (set u b v) (b + 1)
wrote_byte t a p {u} {b} v h w =
    let l = wrote-length t a p (omega arith) w in
    wrote_then t a p (v ∷ []) w (overwrite_byte u b v (omega arith), refl)

-- ---- what a writer wrote

pub written_nothing : (w : Writer) → Written w [] w
written_nothing w = record { wrote = wrote_nothing w.text.now w.end; same = refl }

pub written_then : {w u v : Writer} {p r : List ℕ} → Written w p u → Written u r v → Written w (p ++ r) v
written_then {w} {p = p} {r = r} h g = record { wrote = wrote_then w.text.now w.end p r h.wrote g.wrote; same = g.same ∙ h.same }

-- a piece of a longer text
pub room_left : {w u : Writer} (p r s : List ℕ) → length p + length r ≤ length s → HasRoom w s → Written w p u → HasRoom u r
room_left {w} p r s m l h = omega (arith, h.wrote, wrote-length w.text.now w.end p (omega arith) h.wrote)

pub room_behind : {w u : Writer} (p r : List ℕ) → HasRoom w (p ++ r) → Written w p u → HasRoom u r
room_behind p r = room_left p r (p ++ r) (omega (arith, length-append p r))

-- ---- decimal numbers

-- steps past the number itself change nothing
digits_same : (m k n : ℕ) → n < m → n < k → digits m n ≡ digits k n
unfolding digits
digits_same zero k n h l = absurd (not-suc-le-zero h)
digits_same (suc m) zero n h l = absurd (not-suc-le-zero l)
digits_same (suc m) (suc k) n h l = go (dec_lt n 10) (digits_same m k (n / 10))
  where
    go : Dec (n < 10) → (n / 10 < m → n / 10 < k → digits m (n / 10) ≡ digits k (n / 10)) → digits (suc m) n ≡ digits (suc k) n
    go (yes s) e = rw (lt-ltb n 10 s)
    go (no g) e =
        let s : 10 ≤ n = omega arith in
        rw (le-ltb n 10 s, e (omega arith) (omega arith))

decimal-small : (n : ℕ) → n < 10 → decimal n ≡ (48 + n) ∷ []
unfolding decimal digits
decimal-small n h = rw (lt-ltb n 10 h)

decimal-large : (n : ℕ) → 10 ≤ n → decimal n ≡ decimal (n / 10) ++ ((48 + n % 10) ∷ [])
unfolding decimal digits
decimal-large n h = rw (le-ltb n 10 h, digits_same n (suc (n / 10)) (n / 10) (omega arith) (omega arith))

-- the digits in front of the last
unfoldable pub leading : ℕ → List ℕ
leading n = cond (ltb n 10) [] (decimal (n / 10))

pub leading-small : (n : ℕ) → n < 10 → leading n ≡ []
unfolding leading
leading-small n h = rw (lt-ltb n 10 h)

pub leading-large : (n : ℕ) → 10 ≤ n → leading n ≡ decimal (n / 10)
unfolding leading
leading-large n h = rw (le-ltb n 10 h)

pub decimal-last : (n : ℕ) → decimal n ≡ leading n ++ ((48 + n % 10) ∷ [])
decimal-last n = go (dec_lt n 10)
  where
    go : Dec (n < 10) → decimal n ≡ leading n ++ ((48 + n % 10) ∷ [])
    go (yes h) = rw (leading-small n h, decimal-small n h) (ap (λ d. (48 + d) ∷ []) (omega arith))
    go (no g) =
        let h : 10 ≤ n = omega arith in
        rw leading-large (decimal-large n h)

pub length-decimal : (n : ℕ) → length (decimal n) ≡ suc (length (leading n))
length-decimal n = rw (decimal-last n, length-append) (omega arith)

pub decimal-length : (n d : ℕ) → n < 10 ^ d → 1 ≤ d → length (decimal n) ≤ d
decimal-length n zero h l = absurd (not-suc-le-zero l)
decimal-length n (suc zero) h l = rw (decimal-small n h) (omega arith)
decimal-length n (suc (suc d)) h l = go (dec_lt n 10) (decimal-length (n / 10) (suc d))
  where
    go : Dec (n < 10) → (n / 10 < 10 ^ suc d → 1 ≤ suc d → length (decimal (n / 10)) ≤ suc d) → length (decimal n) ≤ suc (suc d)
    go (yes s) e = rw (decimal-small n s) (omega arith)
    go (no g) e =
        let s : 10 ≤ n = omega arith in
        let m : n / 10 < 10 ^ suc d = omega (arith, pow-suc 10 (suc d)) in
        rw (decimal-large n s, length-append) (omega (arith, e m (omega arith)))

pub signed_below : (z : ℤ) → lt_z z (pos 0) ≡ true → signed z ≡ ascii "-" ++ decimal (nat_abs z)
signed_below (pos n) e = absurd (omega (arith, ltb-true n 0 e))
signed_below (negsuc n) e = refl

pub signed_from : (z : ℤ) → lt_z z (pos 0) ≡ false → signed z ≡ decimal (nat_abs z)
signed_from (pos n) e = refl
signed_from (negsuc n) e = absurd (true≢false e)

pub signed-length : (z : ℤ) (d : ℕ) → nat_abs z < 10 ^ d → 1 ≤ d → length (signed z) ≤ suc d
signed-length (pos n) d h l = omega (arith, decimal-length n d h l)
signed-length (negsuc n) d h l = omega (arith, decimal-length (suc n) d h l)

-- ---- fields

pub spaced-none : spaced [] ≡ []
unfolding spaced
spaced-none = refl

pub spaced-append : (fs gs : List (List ℕ)) → spaced (fs ++ gs) ≡ spaced fs ++ spaced gs
unfolding spaced
spaced-append [] gs = refl
spaced-append (f ∷ fs) gs = rw (spaced-append fs gs) (sym (append_assoc (ascii " " ++ f) (spaced fs) (spaced gs)))

words_append : (l r : List ℕ) → spaced (map decimal (l ++ r)) ≡ spaced (map decimal l) ++ spaced (map decimal r)
words_append l r = rw map-append (spaced-append (map decimal l) (map decimal r))

module _ (ws : List ℕ) (i : ℕ) (h : i < length ws) where
  pub words-next : spaced (map decimal (take (i + 1) ws)) ≡ spaced (map decimal (take i ws)) ++ (ascii " " ++ decimal (get_or ws i 0))
  unfolding spaced
  words-next = rw (add-one i, take-suc ws i 0 h, words_append, append-nil (decimal (get_or ws i 0)))

  pub words-room : length (spaced (map decimal (take i ws))) + length (ascii " " ++ decimal (get_or ws i 0)) ≤ length (spaced (map decimal ws))
  words-room =
      let e = ap (λ (l : List ℕ). length (spaced (map decimal l))) (take-append-drop (i + 1) ws) in
      omega (arith, simp (words_append, words-next, length-append) at e)

pub words-length : (d : ℕ) (ws : List ℕ) → EachBelow (10 ^ d) ws → 1 ≤ d → length (spaced (map decimal ws)) ≤ suc d * length ws
unfolding spaced
words-length d [] h l = omega arith
words-length d (w ∷ ws) h l = rw length-append (omega (arith, decimal-length w d (h 0 (omega arith)) l, words-length d ws (λ i m. h (suc i) (suc-le-suc m)) l))

-- ---- lines

-- a field in the middle
pub line-append : (f : List ℕ) (fs : List (List ℕ)) (g : List ℕ) (gs : List (List ℕ)) → line f (fs ++ (g ∷ gs)) ≡ f ++ (spaced fs ++ ((ascii " " ++ g) ++ (spaced gs ++ ascii "\n")))
unfolding spaced
line-append f fs g gs = rw (spaced-append fs (g ∷ gs), append_assoc (spaced fs) (spaced (g ∷ gs)) (ascii "\n"), append_assoc g (spaced gs) (ascii "\n"))

-- the first two fields, and those behind them
module _ (f g : List ℕ) (gs : List (List ℕ)) where
  pub line_pieces : line f (g ∷ gs) ≡ f ++ ((ascii " " ++ g) ++ (spaced gs ++ ascii "\n"))
  unfolding spaced
  line_pieces = line-append f [] g gs

  pub length-line : length (line f (g ∷ gs)) ≡ 2 + length f + length g + length (spaced gs)
  length-line = rw line_pieces (simp length-append (omega arith))

-- three fields
module _ (f g h : List ℕ) where
  pub line-three : line f (g ∷ h ∷ []) ≡ f ++ ((ascii " " ++ g) ++ ((ascii " " ++ h) ++ ascii "\n"))
  unfolding spaced
  line-three = rw (line_pieces f g (h ∷ []), append-nil h)

  pub length-line-three : length (line f (g ∷ h ∷ [])) ≡ 3 + length f + length g + length h
  length-line-three = rw line-three (simp length-append (omega arith))
