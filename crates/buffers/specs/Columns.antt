-- Lists that are written column after column.
use Rattle.std.specs.Prelude.{◌≡◌, List, ◌≢◌, length, set}
use Rattle.std.proofs.Math.Path.{refl, ap}
use Rattle.std.proofs.Common.{sym, ◌∙◌, ext_get_or, get_or-drop}
use Prim.Native.Nat.{ℕ, zero, suc, ◌+◌, ◌-◌, ◌*◌, ◌/◌, ◌%◌, ◌≤◌, ◌<◌}
use Rattle.std.proofs.Math.Nat as N
use Rattle.std.proofs.Math.Nat.{not-suc-le-zero}
use Rattle.std.proofs.Math.Numerals.{add-one}
use Rattle.std.proofs.Math.Decide.{dec_lt, dec_le}
use native.Mathlib.Omega.{arith}
use Rattle.std.proofs.Math.Arith.{digits_lt}
use Rattle.std.proofs.Math.ListN.{length-set}
use Rattle.buffers.specs.Overwrite.{overwrite}
use Rattle.buffers.specs.Laws.{length-overwrite, front_below, drop-front}
use Rattle.buffers.specs.Positions.{at, rows}
use Rattle.buffers.specs.PositionLaws.{set_agrees}
use Rattle.buffers.specs.Rows.{length-rows, rows_at}

-- l, with f 0 to f (m - 1) stored at the positions p 0 to p (m - 1)
unfoldable pub stored : (ℕ → ℕ) → (ℕ → ℕ) → ℕ → List ℕ → List ℕ
stored p f zero l = l
stored p f (suc m) l = set (stored p f m l) (p m) (f m)

-- l, with the first j columns of m rows of n numbers stored
unfoldable pub columns : ℕ → ℕ → (ℕ → ℕ → ℕ) → ℕ → List ℕ → List ℕ
columns m n f zero l = l
columns m n f (suc j) l = stored (λ t. t * n + j) (λ t. f t j) m (columns m n f j l)

module _ (p f : ℕ → ℕ) (l : List ℕ) where
  pub stored-none : l ≡ stored p f 0 l
  unfolding stored
  stored-none = refl

  pub stored_next : (m i v : ℕ) (s : List ℕ) → s ≡ stored p f m l → i ≡ p m → v ≡ f m → set s i v ≡ stored p f (m + 1) l
  unfolding stored
  stored_next m i v s e d h = rw (e, d, h, add-one m)

  pub stored-all : (i m : ℕ) (s : List ℕ) → i ≡ m → s ≡ stored p f i l → s ≡ stored p f m l
  stored-all i m s h e = e ∙ ap (λ (m : ℕ). stored p f m l) h

  -- b more
  pub stored_more : (a b : ℕ) (p' f' : ℕ → ℕ) (s : List ℕ) → s ≡ stored p f a l → ((c : ℕ) → c < b → p' c ≡ p (a + c)) → ((c : ℕ) → c < b → f' c ≡ f (a + c)) → stored p' f' b s ≡ stored p f (a + b) l
  unfolding stored
  stored_more a zero p' f' s e i v = e ∙ ap (λ (m : ℕ). stored p f m l) (sym (N.add-zero a))
  stored_more a (suc b) p' f' s e i v =
      rw (i b (omega arith), v b (omega arith), stored_more a b p' f' s e (λ c h. i c (omega arith)) (λ c h. v c (omega arith)), N.add-suc a b)

  pub length-stored : (m : ℕ) → length (stored p f m l) ≡ length l
  unfolding stored
  length-stored zero = refl
  length-stored (suc m) = length-set (stored p f m l) (p m) (f m) ∙ length-stored m

  -- where l agrees with g but perhaps at these positions, and what is stored there does, the whole does
  stored_agrees : (g : ℕ → ℕ) (m : ℕ) → ((t : ℕ) → t < m → p t < length l) → ((t : ℕ) → t < m → f t ≡ g (p t)) → (j : ℕ) → (((t : ℕ) → t < m → j ≢ p t) → at l j ≡ g j) → at (stored p f m l) j ≡ g j
  unfolding stored
  stored_agrees g zero b e j h = h (λ t l d. not-suc-le-zero l)
  stored_agrees g (suc m) b e j h =
      set_agrees (stored p f m l) (p m) (f m) g (rw (length-stored m) (b m (omega arith))) (e m (omega arith)) j
      (λ d. stored_agrees g m (λ t k. b t (omega arith)) (λ t k. e t (omega arith)) j (λ c. h (λ t k. last d c t k (dec_lt t m))))
    where
      last : j ≢ p m → ((t : ℕ) → t < m → j ≢ p t) → (t : ℕ) → t < suc m → Dec (t < m) → j ≢ p t
      last d c t k (yes s) = c t s
      last d c t k (no s) =
          let e : t ≡ m = omega arith in
          rw e d

module _ (m n : ℕ) (f : ℕ → ℕ → ℕ) (l : List ℕ) where
  pub columns-none : l ≡ columns m n f 0 l
  unfolding columns
  columns-none = refl

  pub columns-next : (j : ℕ) (s t : List ℕ) → s ≡ columns m n f j l → t ≡ stored (λ t. t * n + j) (λ t. f t j) m s → t ≡ columns m n f (j + 1) l
  unfolding columns
  columns-next j s t e d = rw (d, e, add-one j)

  pub length-columns : (j : ℕ) → length (columns m n f j l) ≡ length l
  unfolding columns
  length-columns zero = refl
  length-columns (suc j) = length-stored _ _ (columns m n f j l) m ∙ length-columns j

  module _ (h : m * n ≤ length l) where
    written : (t j : ℕ) → t < m → j < n → f t j ≡ at (overwrite l 0 (rows m n f)) (t * n + j)
    written t j a b = sym (front_below l (rows m n f) (t * n + j) (rw (length-rows m n f) (digits_lt a b)) ∙ rows_at m n f t j a b)

    kept : (i : ℕ) → m * n ≤ i → at l i ≡ at (overwrite l 0 (rows m n f)) i
    kept i a =
        let e : m * n + (i - m * n) ≡ i = omega arith in
        let d = ap (λ (s : List ℕ). at s (i - m * n)) (drop-front l (rows m n f) (m * n) (length-rows m n f)) in
        rw (← e) (sym (sym (get_or-drop (m * n) (overwrite l 0 (rows m n f)) (i - m * n) 0) ∙ d ∙ get_or-drop (m * n) l (i - m * n) 0))

    -- with j columns stored, every position agrees that is in none of the others
    columns-agree : (j : ℕ) → j ≤ n → (i : ℕ) → ((t c : ℕ) → t < m → j ≤ c → c < n → i ≢ t * n + c) → at (columns m n f j l) i ≡ at (overwrite l 0 (rows m n f)) i
    unfolding columns
    columns-agree zero b i o = go (dec_lt i (m * n))
      where
        go : Dec (i < m * n) → at l i ≡ at (overwrite l 0 (rows m n f)) i
        go (yes a) =
            let p : 0 < n = N.pos_of_ne-zero (λ e. not-suc-le-zero (rw (e, N.mul-zero m) at a)) in
            absurd (o (i / n) (i % n) ((N.div-lt_iff_lt-mul p).1 a) (omega arith) (N.mod-lt i p) (sym (N.div-add-mod' i n)))
        go (no a) = kept i (omega arith)
    columns-agree (suc j) b i o =
        stored_agrees (λ t. t * n + j) (λ t. f t j) (columns m n f j l) (at (overwrite l 0 (rows m n f))) m (λ t a. rw (length-columns j) (N.le_trans (digits_lt a b) h)) (λ t a. written t j a b) i
        (λ d. columns-agree j (omega arith) i (λ t c a k g. first t c a k g d (dec_le (suc j) c)))
      where
        first : (t c : ℕ) → t < m → j ≤ c → c < n → ((t : ℕ) → t < m → i ≢ t * n + j) → Dec (suc j ≤ c) → i ≢ t * n + c
        first t c a k g d (yes s) = o t c a s g
        first t c a k g d (no s) =
            let e : c ≡ j = omega arith in
            rw e (d t a)

    -- with all columns stored, all rows are
    pub columns-all : columns m n f n l ≡ overwrite l 0 (rows m n f)
    columns-all =
        ext_get_or 0 (columns m n f n l) (overwrite l 0 (rows m n f)) (length-columns n ∙ sym (length-overwrite l 0 (rows m n f) (omega (arith, length-rows m n f))))
        (λ i a. columns-agree n (N.le_refl n) i (λ t c b k g. absurd (omega arith)))
