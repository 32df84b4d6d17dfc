-- The line of a refusal, as the programs print it.
use Rattle.std.specs.Prelude.{List, [], ◌∷◌, ℕ}
use Rattle.checks.specs.Checks.{Verdict, accepted, refused}
use Rattle.text.specs.Ascii.{ascii}
use Rattle.text.specs.Text.{decimal, line}

-- "refused", the number and the position
unfoldable pub refusal_line : ℕ → ℕ → List ℕ
refusal_line code position = line (ascii "refused") (decimal code ∷ decimal position ∷ [])

-- none for a file that is complete
abbrev pub ending_line : Verdict Unit → List ℕ
ending_line (accepted a) = []
ending_line (refused code position) = refusal_line code position
