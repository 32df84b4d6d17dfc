-- A list of numbers as a function of the position, and back.
use Rattle.std.specs.Prelude.{◌≡◌, cond, List, [], ◌∷◌, ◌++◌, ℕ, zero, suc, ◌+◌, ◌-◌, ◌*◌, ◌<◌, ltb, get_or, take, drop}

-- the number at a position, and 0 behind the end
abbrev pub at : List ℕ → ℕ → ℕ
at l i = get_or l i 0

-- the list of the first n values
unfoldable pub table : ℕ → (ℕ → ℕ) → List ℕ
table zero f = []
table (suc n) f = f zero ∷ table n (λ i. f (suc i))

-- row after row: the first n values of each of k functions
unfoldable pub rows : ℕ → ℕ → (ℕ → ℕ → ℕ) → List ℕ
rows zero n f = []
rows (suc k) n f = table n (f zero) ++ rows k n (λ t. f (suc t))

-- block t of a list in blocks of c numbers: those from position t × c on
unfoldable pub block : ℕ → ℕ → List ℕ → List ℕ
block c t l = take c (drop (t * c) l)

-- the values from position n on
abbrev pub after : ℕ → (ℕ → ℕ) → ℕ → ℕ
after n f i = f (n + i)

-- f below n, and g from there on
unfoldable pub join : ℕ → (ℕ → ℕ) → (ℕ → ℕ) → ℕ → ℕ
join n f g j = cond (ltb j n) (f j) (g (j - n))

-- the same at each position below n
abbrev pub Same : ℕ → (ℕ → ℕ) → (ℕ → ℕ) → Type 0
Same n f g = (i : ℕ) → i < n → f i ≡ g i

-- below q at each position below n
abbrev pub Below : ℕ → ℕ → (ℕ → ℕ) → Type 0
Below q n f = (i : ℕ) → i < n → f i < q
