-- Laws of lists of records and of their bytes.
use Rattle.std.specs.Prelude.{◌≡◌, List, [], ◌∷◌, ◌++◌, ℕ, zero, suc, ◌+◌, ◌-◌, ◌*◌, ◌≤◌, ◌<◌, length, get_or, take, drop}
use Rattle.std.proofs.Math.Path.{refl}
use Rattle.std.proofs.Common.{sym, ap, ap₂, ◌∙◌, append_assoc, append-nil, suc-le-suc, add-zero, zero-mul, mul-one, not-suc-le-zero, le_of_suc-le-suc, add-one, arith, length-append, take_at, drop_at, drop-drop}
use Rattle.buffers.specs.Positions.{Same}
use Rattle.text.specs.declared.Writer.{Writer}
use Rattle.text.specs.Laws.{wrote_nothing, wrote_then, wrote-length, written_nothing, written_then}
use Rattle.records.specs.Records.{Step, step, none, step_bytes, record_bytes, bytes, across, per_share, Fits, Recorded, FitsIn, RecordedBy}

-- ---- lists one behind the other

pub across-last : (n : ℕ) (f : ℕ → List Step) → across (suc n) f ≡ across n f ++ f n
unfolding across
across-last zero f = append-nil (f zero)
across-last (suc n) f = ap (λ (l : List Step). f zero ++ l) (across-last n (λ i. f (suc i))) ∙ sym (append_assoc (f zero) (across n (λ i. f (suc i))) (f (suc n)))

pub across-same : (n : ℕ) (f g : ℕ → List Step) → ((i : ℕ) → i < n → f i ≡ g i) → across n f ≡ across n g
unfolding across
across-same zero f g h = refl
across-same (suc n) f g h = ap₂ ◌++◌ (h zero (omega arith)) (across-same n (λ i. f (suc i)) (λ i. g (suc i)) (λ i l. h (suc i) (suc-le-suc l)))

-- those from list t on
pub across_from : (k t : ℕ) (f : ℕ → List Step) → t < k → across (k - t) (λ i. f (t + i)) ≡ f t ++ across (k - (t + 1)) (λ i. f (t + 1 + i))
unfolding across
across_from k t f h =
    let e : k - t ≡ suc (k - (t + 1)) = omega arith in
    rw e (ap₂ ◌++◌ (ap f (add-zero t)) (across-same (k - (t + 1)) _ _ (λ i l. ap f (omega arith))))

-- of a record each
pub across-at : (n : ℕ) (r : ℕ → Step) (i : ℕ) → i < n → get_or (across n (λ i. r i ∷ [])) i none ≡ r i
unfolding across
across-at zero r i h = absurd (not-suc-le-zero h)
across-at (suc n) r zero h = refl
across-at (suc n) r (suc i) h = across-at n (λ i. r (suc i)) i (le_of_suc-le-suc h)

-- of as many records each
length-across : (n c : ℕ) (f : ℕ → List Step) → ((i : ℕ) → i < n → length (f i) ≡ c) → length (across n f) ≡ n * c
unfolding across
length-across zero c f h = sym (zero-mul c)
length-across (suc n) c f h = length-append (f zero) (across n (λ i. f (suc i))) ∙ omega (arith, h zero (omega arith), length-across n c (λ i. f (suc i)) (λ i l. h (suc i) (suc-le-suc l)))

module _ (bit round kind : ℕ) (f : ℕ → ℕ) where
  pub length-per_share : (n : ℕ) → length (per_share n bit round kind f) ≡ n
  length-per_share n = length-across n 1 (λ i. step bit round (suc i) kind (f i) ∷ []) (λ i l. refl) ∙ mul-one n

  pub per_share-none : per_share 0 bit round kind f ≡ []
  unfolding across
  per_share-none = refl

  pub per_share-next : (i : ℕ) → per_share (i + 1) bit round kind f ≡ per_share i bit round kind f ++ (step bit round (i + 1) kind (f i) ∷ [])
  per_share-next i = rw (add-one i) (across-last i (λ i. step bit round (suc i) kind (f i) ∷ []))

pub per_share-same : (n bit round kind : ℕ) (f g : ℕ → ℕ) → Same n f g → per_share n bit round kind f ≡ per_share n bit round kind g
per_share-same n bit round kind f g h = across-same n _ _ (λ i l. ap (λ (v : ℕ). step bit round (suc i) kind v ∷ []) (h i l))

-- ---- bytes

pub bytes-append : (l m : List Step) → bytes (l ++ m) ≡ bytes l ++ bytes m
unfolding bytes
bytes-append [] m = refl
bytes-append (s ∷ l) m = ap (λ (b : List ℕ). step_bytes s ++ b) (bytes-append l m) ∙ sym (append_assoc (step_bytes s) (bytes l) (bytes m))

pub length-bytes : (l : List Step) → length (bytes l) ≡ record_bytes * length l
unfolding bytes
length-bytes [] = refl
length-bytes (s ∷ l) = length-append (step_bytes s) (bytes l) ∙ omega (arith, length-bytes l)

-- record p has the bytes from 8 × p on
pub bytes-at : (l : List Step) (p : ℕ) → p < length l → take record_bytes (drop (record_bytes * p) (bytes l)) ≡ step_bytes (get_or l p none)
unfolding bytes
bytes-at [] p h = absurd (not-suc-le-zero h)
bytes-at (s ∷ l) zero h = take_at (step_bytes s) (bytes l) record_bytes refl
bytes-at (s ∷ l) (suc p) h =
    let e : record_bytes * suc p ≡ record_bytes + record_bytes * p = omega arith in
    ap (λ (i : ℕ). take record_bytes (drop i (step_bytes s ++ bytes l))) e
    ∙ ap (take record_bytes) (sym (drop-drop (record_bytes * p) record_bytes (step_bytes s ++ bytes l)) ∙ ap (drop (record_bytes * p)) (drop_at (step_bytes s) (bytes l) record_bytes refl))
    ∙ bytes-at l p (le_of_suc-le-suc h)

-- ---- what was written

pub recorded_none : (l : List ℕ) (a : ℕ) → Recorded l a [] l a
unfolding bytes
recorded_none l a = wrote_nothing l a

pub recorded_then : (l : List ℕ) (a : ℕ) (s t : List Step) {m u : List ℕ} {b e : ℕ} → Recorded l a s m b → Recorded m b t u e → Recorded l a (s ++ t) u e
recorded_then l a s t d f = rw (bytes-append s t) (wrote_then l a (bytes s) (bytes t) d f)

pub recorded_end : (l : List ℕ) (a : ℕ) (s : List Step) {m : List ℕ} {b : ℕ} → Recorded l a s m b → b ≡ a + record_bytes * length s
recorded_end l a s d = d.1 ∙ ap (λ (c : ℕ). a + c) (length-bytes s)

pub recorded_length : (l : List ℕ) (a : ℕ) (s : List Step) {m : List ℕ} {b : ℕ} → Fits l a s → Recorded l a s m b → length m ≡ length l
recorded_length l a s h d = wrote-length l a (bytes s) (omega (arith, length-bytes s, h.room)) d

-- room for records is room for the first of them, and then for the others
pub fits-first : (l : List ℕ) (a : ℕ) (s t : List Step) → Fits l a (s ++ t) → Fits l a s
fits-first l a s t h = record { room = omega (arith, h.room, length-append s t) }

pub fits-rest : (l : List ℕ) (a : ℕ) (s t : List Step) {m : List ℕ} {b : ℕ} → Fits l a (s ++ t) → Recorded l a s m b → Fits m b t
fits-rest l a s t h d = record { room = omega (arith, h.room, length-append s t, recorded_end l a s d, recorded_length l a s (fits-first l a s t h) d) }

-- ---- what a writer recorded

pub records_none : (w : Writer) → RecordedBy w [] w
unfolding bytes
records_none w = written_nothing w

pub records_then : {w u v : Writer} (s t : List Step) → RecordedBy w s u → RecordedBy u t v → RecordedBy w (s ++ t) v
records_then s t d f = rw (bytes-append s t) (written_then d f)

-- records of a longer list
pub fits_left : {w u : Writer} (s t l : List Step) → length s + length t ≤ length l → FitsIn w l → RecordedBy w s u → FitsIn u t
fits_left {w} s t l m h d =
    record { room = omega (arith, h.room, recorded_end w.text.now w.end s d.wrote, recorded_length w.text.now w.end s (record { room = omega (arith, h.room) }) d.wrote) }

pub fits_behind : {w u : Writer} (s t : List Step) → FitsIn w (s ++ t) → RecordedBy w s u → FitsIn u t
fits_behind {w} s t h d = fits-rest w.text.now w.end s t h d.wrote

-- ---- what is left to write

-- Of the records `whole`, to be written at `start` of `before`, those left are `steps`, at `a` of l: who writes them has written the whole.
pub record Left (before : List ℕ) (start : ℕ) (whole : List Step) (l : List ℕ) (a : ℕ) (steps : List Step) : Type 0 where
  pub room : Fits l a steps
  pub long : length l ≡ length before
  pub rest : {m : List ℕ} {b : ℕ} → Recorded l a steps m b → Recorded before start whole m b

pub left-all : (l : List ℕ) (a : ℕ) (s : List Step) → Fits l a s → Left l a s l a s
left-all l a s h = record { room = h; long = refl; rest = λ d. d }

module _ (before : List ℕ) (start : ℕ) (whole : List Step) (l : List ℕ) (a : ℕ) where
  pub left-next : (s t : List Step) {m : List ℕ} {b : ℕ} → Left before start whole l a (s ++ t) → Recorded l a s m b → Left before start whole m b t
  left-next s t L d =
      record { room = fits-rest l a s t L.room d; long = recorded_length l a s (fits-first l a s t L.room) d ∙ L.long; rest = λ e. L.rest (recorded_then l a s t d e) }

  pub left-none : Left before start whole l a [] → Recorded before start whole l a
  left-none L = L.rest (recorded_none l a)
