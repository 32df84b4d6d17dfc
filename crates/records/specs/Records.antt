-- A step record (document 02, A.8) and the bytes of a list of them.
use Rattle.std.specs.Prelude.{List, [], ◌∷◌, ◌++◌, ℕ, zero, suc, ◌+◌, ◌*◌, ◌/◌, ◌%◌, ◌≤◌, length}
use Rattle.text.specs.Ascii.{ascii}
use Rattle.text.specs.declared.Writer.{Writer}
use Rattle.text.specs.Text.{Wrote, Written}

-- the fields behind the mark; rounds, pairs and shares are counted from 1
pub record Step : Type 0 where
  pub bit : ℕ
  pub round : ℕ
  pub share : ℕ
  pub kind : ℕ
  pub value : ℕ

abbrev pub step : ℕ → ℕ → ℕ → ℕ → ℕ → Step
step bit round share kind value = record { bit = bit; round = round; share = share; kind = kind; value = value }

-- what stands behind the end of a list of records
abbrev pub none : Step
none = step 0 0 0 0 0

-- two bytes, low first
abbrev pub value_bytes : ℕ → List ℕ
value_bytes v = v % 256 ∷ v / 256 ∷ []

-- the mark, then the fields
abbrev pub step_bytes : Step → List ℕ
step_bytes s = ascii "ST" ++ (s.bit ∷ s.round ∷ s.share ∷ s.kind ∷ value_bytes s.value)

-- the bytes of a record
abbrev pub record_bytes : ℕ
record_bytes = 8

unfoldable pub bytes : List Step → List ℕ
bytes [] = []
bytes (s ∷ l) = step_bytes s ++ bytes l

-- the lists f 0, f 1 and so on to f (n − 1), one behind the other
unfoldable pub across : ℕ → (ℕ → List Step) → List Step
across zero f = []
across (suc n) f = f zero ++ across n (λ i. f (suc i))

-- a record for each of the first n shares
abbrev pub per_share : ℕ → ℕ → ℕ → ℕ → (ℕ → ℕ) → List Step
per_share n bit round kind f = across n (λ i. step bit round (suc i) kind (f i) ∷ [])

-- from `start` on, the list has room for the records
pub record Fits (l : List ℕ) (start : ℕ) (steps : List Step) : Type 0 where
  pub room : start + record_bytes * length steps ≤ length l

-- the records were written at `start`, and `end` is the position behind them
abbrev pub Recorded : List ℕ → ℕ → List Step → List ℕ → ℕ → Type 0
Recorded before start steps after end = Wrote before start (bytes steps) after end

-- a writer has room for the records behind what it wrote
abbrev pub FitsIn : Writer → List Step → Type 0
FitsIn w steps = Fits w.text.now w.end steps

-- a writer wrote the records behind that, into the same buffer
abbrev pub RecordedBy : Writer → List Step → Writer → Type 0
RecordedBy w steps after = Written w (bytes steps) after
