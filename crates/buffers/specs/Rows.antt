-- Lists that are written value after value from the front, or row after row.
use Rattle.std.specs.Prelude.{◌≡◌, refl, List, ◌++◌, ℕ, zero, suc, ◌+◌, ◌*◌, ◌≤◌, ◌<◌, length, set}
use Rattle.std.proofs.Math.Path.{sym}
use Rattle.std.proofs.Common.{ap, ap₂, ◌∙◌, append_assoc, append-nil, suc-le-suc, not-suc-le-zero, le_of_suc-le-suc, add-one, arith, length-append, get_or-append-add}
use Rattle.std.proofs.Math.Nat as N
use Rattle.std.proofs.Math.ListN.{get_or-append}
use Rattle.residue.specs.Residue.{EachBelow}
use Rattle.residue.proofs.Sum.{each-below-append}
use Rattle.buffers.specs.Overwrite.{overwrite}
use Rattle.buffers.specs.Laws.{length-overwrite, overwrite-none, overwrite-append, front_snoc}
use Rattle.buffers.specs.Positions.{at, table, rows, Same, Below}
use Rattle.buffers.specs.PositionLaws.{length-table, table_at, table_below, table_same, table-last}

-- ---- value after value

module _ (l : List ℕ) (f : ℕ → ℕ) where
  pub values-none : l ≡ overwrite l 0 (table 0 f)
  unfolding table
  values-none = sym (overwrite-none l 0)

  pub values-next : (i v : ℕ) (t : List ℕ) → t ≡ overwrite l 0 (table i f) → v ≡ f i → i < length l → set t i v ≡ overwrite l 0 (table (i + 1) f)
  values-next i v t e d h =
      let m = length-table i f in
      rw (e, d, add-one i, table-last i f, ← front_snoc l (table i f) (f i) (omega arith), m)

  pub values-all : (i n : ℕ) (t : List ℕ) → i ≡ n → t ≡ overwrite l 0 (table i f) → t ≡ overwrite l 0 (table n f)
  values-all i n t h e = e ∙ ap (λ (m : ℕ). overwrite l 0 (table m f)) h

-- ---- row after row

pub length-rows : (k n : ℕ) (f : ℕ → ℕ → ℕ) → length (rows k n f) ≡ k * n
unfolding rows
length-rows zero n f = sym (N.zero-mul n)
length-rows (suc k) n f = length-append (table n (f zero)) (rows k n (λ t. f (suc t))) ∙ omega (arith, length-table n (f zero), length-rows k n (λ t. f (suc t)))

pub rows_last : (k n : ℕ) (f : ℕ → ℕ → ℕ) → rows (suc k) n f ≡ rows k n f ++ table n (f k)
unfolding rows
rows_last zero n f = append-nil (table n (f zero))
rows_last (suc k) n f =
    ap (λ (l : List ℕ). table n (f zero) ++ l) (rows_last k n (λ t. f (suc t)))
    ∙ sym (append_assoc (table n (f zero)) (rows k n (λ t. f (suc t))) (table n (f (suc k))))

pub rows_at : (k n : ℕ) (f : ℕ → ℕ → ℕ) (t i : ℕ) → t < k → i < n → at (rows k n f) (t * n + i) ≡ f t i
unfolding rows
rows_at zero n f t i h l = absurd (not-suc-le-zero h)
rows_at (suc k) n f zero i h l =
    let e : 0 * n + i ≡ i = omega arith in
    rw e (get_or-append (table n (f zero)) (rows k n (λ t. f (suc t))) 0 i (omega (arith, length-table n (f zero))) ∙ table_at n (f zero) i l)
rows_at (suc k) n f (suc t) i h l =
    let m = length-table n (f zero) in
    let e : suc t * n + i ≡ length (table n (f zero)) + (t * n + i) = omega arith in
    rw e (get_or-append-add (table n (f zero)) (rows k n (λ t. f (suc t))) (t * n + i) 0 ∙ rows_at k n (λ t. f (suc t)) t i (le_of_suc-le-suc h) l)

pub rows_same : (k n : ℕ) (f g : ℕ → ℕ → ℕ) → ((t : ℕ) → t < k → Same n (f t) (g t)) → rows k n f ≡ rows k n g
unfolding rows
rows_same zero n f g h = refl
rows_same (suc k) n f g h = ap₂ ◌++◌ (table_same n (f zero) (g zero) (h zero (omega arith))) (rows_same k n (λ t. f (suc t)) (λ t. g (suc t)) (λ t l. h (suc t) (suc-le-suc l)))

pub rows-below : (q k n : ℕ) (f : ℕ → ℕ → ℕ) → ((t : ℕ) → t < k → Below q n (f t)) → EachBelow q (rows k n f)
unfolding rows
rows-below q zero n f h = λ i l. absurd (not-suc-le-zero l)
rows-below q (suc k) n f h =
    each-below-append q (table n (f zero)) (rows k n (λ t. f (suc t))) (table_below q n (f zero) (h zero (omega arith)))
    (rows-below q k n (λ t. f (suc t)) (λ t l. h (suc t) (suc-le-suc l)))

module _ (l : List ℕ) (start n : ℕ) (f : ℕ → ℕ → ℕ) where
  pub rows_none : l ≡ overwrite l start (rows 0 n f)
  unfolding rows
  rows_none = sym (overwrite-none l start)

  pub rows_next : (t : ℕ) (m : List ℕ) (s : List ℕ) → m ≡ overwrite l start (rows t n f) → s ≡ table n (f t) → overwrite m (start + t * n) s ≡ overwrite l start (rows (t + 1) n f)
  rows_next t m s e d = rw (e, d, add-one t, rows_last t n f, ← length-rows t n f) (overwrite-append l start (rows t n f) (table n (f t)))

  pub rows-length : (t : ℕ) (m : List ℕ) → m ≡ overwrite l start (rows t n f) → start + t * n ≤ length l → length m ≡ length l
  rows-length t m e h = ap length e ∙ length-overwrite l start (rows t n f) (omega (arith, length-rows t n f))
