-- Laws of lists as functions of the position.
use Rattle.std.specs.Prelude.{◌≡◌, refl, List, [], ◌∷◌, ◌++◌, ◌≢◌, ℕ, zero, suc, ◌+◌, ◌≤◌, ◌<◌, length, set, take, drop, replicate}
use Rattle.std.proofs.Common.{sym, ap, ◌∙◌, suc-le-suc, suc-ne-zero, not-suc-le-zero, le_of_suc-le-suc, arith, lt-ltb, le-ltb, get_or-set_same, get_or-set_other, get_or-take, get_or-drop, take_all}
use Rattle.std.proofs.Math.Path.{fun_ext}
use Rattle.std.proofs.Math.Nat as N
use Rattle.std.proofs.Math.Nat.{suc_inj}
use Rattle.std.proofs.Math.Decide.{dec_lt, ℕ_discrete}
use Rattle.std.proofs.lemmas.List.{length-replicate, get_or-replicate}
use Rattle.std.proofs.Math.ListN.{get_or-eq_default}
use Rattle.residue.specs.Residue.{EachBelow}
use Rattle.buffers.specs.Overwrite.{overwrite}
use Rattle.buffers.specs.Laws.{length-overwrite, front_below, front_from, front_over}
use Rattle.buffers.specs.Positions.{at, table, after, join, Same, Below}

pub after_zero : (f : ℕ → ℕ) → after 0 f ≡ f
after_zero f = fun_ext (λ i. ap f (N.zero-add i))

pub after-after : (m n : ℕ) (f : ℕ → ℕ) → after n (after m f) ≡ after (m + n) f
after-after m n f = fun_ext (λ i. ap f (omega arith))

-- from a position that is n behind m
pub after-at : (m n p : ℕ) (f : ℕ → ℕ) → p ≡ m + n → after p f ≡ after n (after m f)
after-at m n p f e = ap (λ (s : ℕ). after s f) e ∙ sym (after-after m n f)

pub drop-after : (n : ℕ) (l : List ℕ) → at (drop n l) ≡ after n (at l)
drop-after n l = fun_ext (λ i. get_or-drop n l i 0)

module _ (n : ℕ) (f g : ℕ → ℕ) where
  pub join-below : (j : ℕ) → j < n → join n f g j ≡ f j
  unfolding join
  join-below j h = rw (lt-ltb j n h)

  pub join_from : (j : ℕ) → join n f g (n + j) ≡ g j
  unfolding join
  join_from j = rw (le-ltb (n + j) n (omega arith)) (ap g (omega arith))

-- ---- tables

pub length-table : (n : ℕ) (f : ℕ → ℕ) → length (table n f) ≡ n
unfolding table
length-table zero f = refl
length-table (suc n) f = ap suc (length-table n (λ i. f (suc i)))

pub table_at : (n : ℕ) (f : ℕ → ℕ) (i : ℕ) → i < n → at (table n f) i ≡ f i
unfolding table
table_at zero f i h = absurd (not-suc-le-zero h)
table_at (suc n) f zero h = refl
table_at (suc n) f (suc i) h = table_at n (λ i. f (suc i)) i (le_of_suc-le-suc h)

pub table_below : (q n : ℕ) (f : ℕ → ℕ) → Below q n f → EachBelow q (table n f)
table_below q n f h i l =
    let m = length-table n f in
    rw (table_at n f i (omega arith)) (h i (omega arith))

pub table_same : (n : ℕ) (f g : ℕ → ℕ) → Same n f g → table n f ≡ table n g
unfolding table
table_same zero f g h = refl
table_same (suc n) f g h = rw (h zero (omega arith), table_same n (λ i. f (suc i)) (λ i. g (suc i)) (λ i l. h (suc i) (suc-le-suc l)))

pub table-last : (n : ℕ) (f : ℕ → ℕ) → table (suc n) f ≡ table n f ++ (f n ∷ [])
unfolding table
table-last zero f = refl
table-last (suc n) f = ap (λ (l : List ℕ). f zero ∷ l) (table-last n (λ i. f (suc i)))

-- a list is the table of itself
pub table_list : (n : ℕ) (l : List ℕ) → length l ≡ n → table n (at l) ≡ l
unfolding table
table_list zero [] e = refl
table_list zero (a ∷ l) e = absurd (suc-ne-zero (length l) e)
table_list (suc n) [] e = absurd (suc-ne-zero n (sym e))
table_list (suc n) (a ∷ l) e = ap (λ (r : List ℕ). a ∷ r) (table_list n l (suc_inj e))

-- a function that is 0 from n on is all in its table
pub list_table : (n : ℕ) (f : ℕ → ℕ) → ((i : ℕ) → n ≤ i → f i ≡ 0) → at (table n f) ≡ f
list_table n f h = fun_ext (λ i. go i (dec_lt i n))
  where
    go : (i : ℕ) → Dec (i < n) → at (table n f) i ≡ f i
    go i (yes l) = table_at n f i l
    go i (no g) =
        let l : n ≤ i = omega arith in
        get_or-eq_default (table n f) 0 (omega (arith, length-table n f)) ∙ sym (h i l)

-- ---- one position stored

-- where the list agrees with f but perhaps at position i, and f i is stored there
pub set_agrees : (l : List ℕ) (i v : ℕ) (f : ℕ → ℕ) → i < length l → v ≡ f i → (j : ℕ) → (j ≢ i → at l j ≡ f j) → at (set l i v) j ≡ f j
set_agrees l i v f h e j a = go (ℕ_discrete j i)
  where
    go : Dec (j ≡ i) → at (set l i v) j ≡ f j
    go (yes d) = rw d (get_or-set_same l i v 0 h ∙ e)
    go (no d) = get_or-set_other l i j v 0 d ∙ a d

-- ---- the front of a list

pub take_same : (n : ℕ) (l m : List ℕ) → take n l ≡ take n m → Same n (at l) (at m)
take_same n l m e i h = sym (get_or-take n l i 0 h) ∙ ap (λ (r : List ℕ). at r i) e ∙ get_or-take n m i 0 h

-- a list that was copied to the front of another, none of it cut off
pub front_same : (l s t : List ℕ) (n : ℕ) → t ≡ overwrite l 0 (take n s) → length s ≤ n → Same (length s) (at t) (at s)
front_same l s t n e h i m = ap (λ (r : List ℕ). at r i) (e ∙ ap (overwrite l 0) (take_all n s h)) ∙ front_below l s i m

pub front-zeros : (l : List ℕ) (n : ℕ) → Same n (at (overwrite l 0 (replicate n 0))) (λ i. 0)
front-zeros l n i h = front_below l (replicate n 0) i (omega (arith, length-replicate {A = ℕ} n 0)) ∙ get_or-replicate {A = ℕ} n i 0 0 h

module _ (l : List ℕ) (n : ℕ) (f : ℕ → ℕ) where
  pub front_at : (m : List ℕ) → m ≡ overwrite l 0 (table n f) → Same n (at m) f
  front_at m e i h = ap (λ (k : List ℕ). at k i) e ∙ front_below l (table n f) i (omega (arith, length-table n f)) ∙ table_at n f i h

  pub front-behind : (i : ℕ) → n ≤ i → at (overwrite l 0 (table n f)) i ≡ at l i
  front-behind i h = front_from l (table n f) i (omega (arith, length-table n f))

  pub front_length : (m : List ℕ) → m ≡ overwrite l 0 (table n f) → n ≤ length l → length m ≡ length l
  front_length m e h = ap length e ∙ length-overwrite l 0 (table n f) (omega (arith, length-table n f))

  -- a list that has the values of f in front, and those of l behind
  pub front-values : (m : List ℕ) → n ≤ length l → length m ≡ length l → Same n (at m) f → ((i : ℕ) → n ≤ i → at m i ≡ at l i) → m ≡ overwrite l 0 (table n f)
  front-values m h e a b =
      sym (table_list (length l) m e) ∙ table_same (length l) _ _ (λ i k. go i (dec_lt i n)) ∙ table_list (length l) (overwrite l 0 (table n f)) (front_length _ refl h)
    where
      go : (i : ℕ) → Dec (i < n) → at m i ≡ at (overwrite l 0 (table n f)) i
      go i (yes k) = a i k ∙ sym (front_at _ refl i k)
      go i (no k) = b i (omega arith) ∙ sym (front-behind i (omega arith))

-- n values in front of a list, written over n others
pub front-twice : (n : ℕ) (f g : ℕ → ℕ) (l m u : List ℕ) → m ≡ overwrite l 0 (table n f) → u ≡ overwrite m 0 (table n g) → u ≡ overwrite l 0 (table n g)
front-twice n f g l m u e d = d ∙ ap (λ (k : List ℕ). overwrite k 0 (table n g)) e ∙ front_over l _ _ (N.le_of_eq (length-table n f ∙ sym (length-table n g)))

-- n zeros
pub table-zeros : (n : ℕ) → replicate n 0 ≡ table n (λ i. 0)
unfolding table
table-zeros zero = refl
table-zeros (suc n) = ap (λ (l : List ℕ). 0 ∷ l) (table-zeros n)
