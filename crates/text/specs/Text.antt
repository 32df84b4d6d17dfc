-- Numbers, fields and lines as bytes.
use Rattle.std.specs.Prelude.{cond, List, [], ◌∷◌, ◌++◌, ◌≡◌, ℕ, zero, suc, ◌+◌, ◌/◌, ◌%◌, ◌≤◌, ltb, ℤ, pos, negsuc, length}
use Rattle.buffers.specs.Overwrite.{overwrite}
use Rattle.text.specs.Ascii.{ascii}
use Rattle.text.specs.declared.Writer.{Writer}

-- the decimal digits of n, in at most `most` of them; the code of '0' is 48
unfoldable pub digits : ℕ → ℕ → List ℕ
digits zero n = []
digits (suc most) n = cond (ltb n 10) ((48 + n) ∷ []) (digits most (n / 10) ++ ((48 + n % 10) ∷ []))

-- without a zero in front; a number has no more digits than n + 1
unfoldable pub decimal : ℕ → List ℕ
decimal n = digits (suc n) n

-- with '-' before a negative number
abbrev pub signed : ℤ → List ℕ
signed (pos n) = decimal n
signed (negsuc n) = ascii "-" ++ decimal (suc n)

-- fields, each with one space before it
unfoldable pub spaced : List (List ℕ) → List ℕ
spaced [] = []
spaced (f ∷ fs) = (ascii " " ++ f) ++ spaced fs

-- `piece` was written at `start`, and `end` is the position behind it
abbrev pub Wrote : List ℕ → ℕ → List ℕ → List ℕ → ℕ → Type 0
Wrote text start piece after end = (after ≡ overwrite text start piece) × (end ≡ start + length piece)

-- there is room for `piece` behind what a writer wrote
abbrev pub HasRoom : Writer → List ℕ → Type 0
HasRoom w piece = w.end + length piece ≤ length w.text.now

-- a writer wrote `piece` behind that, into the same text
pub record Written (w : Writer) (piece : List ℕ) (after : Writer) : Type 0 where
  pub wrote : Wrote w.text.now w.end piece after.text.now after.end
  pub same : after.text.ghost_name ≡ w.text.ghost_name

-- Fields are parted by one space, and a line ends in a line feed.
abbrev pub line : List ℕ → List (List ℕ) → List ℕ
line f fs = f ++ (spaced fs ++ ascii "\n")
