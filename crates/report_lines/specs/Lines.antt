-- The lines of the class report (document 02, A.4), as bytes.
use Rattle.std.specs.Prelude.{Bool, cond, List, [], ◌∷◌, ◌++◌, ℕ, ◌^◌, ℤ}
use Rattle.buffers.specs.Positions.{at}
use Rattle.pairs.specs.Pairs.{pairs}
use Rattle.tally.specs.Tally.{Line, sample_at, lines_of}
use Rattle.tally.specs.declared.Tally.{Tally}
use Rattle.text.specs.Text.{decimal, signed, line}

-- the two exact numbers, which a file with mixed k omits
abbrev pub exact_fields : Bool → ℕ → ℕ → List (List ℕ)
exact_fields mixed ways power = cond mixed [] (decimal ways ∷ decimal power ∷ [])

-- the sample, how many times it came, the number of pairs of k-bit strings with that difference, and 4 to the power k
unfoldable pub line_text : Bool → ℕ → Line → List ℕ
line_text mixed k l = line (signed l.sample) (decimal l.count ∷ exact_fields mixed (pairs k l.sample) (4 ^ k))

unfoldable pub lines_text : Bool → ℕ → List Line → List ℕ
lines_text mixed k [] = []
lines_text mixed k (l ∷ ls) = line_text mixed k l ++ lines_text mixed k ls

-- the sum of the samples, the sum of their squares, and how many they are
unfoldable pub last_line : ℤ → ℕ → ℕ → List ℕ
last_line sum squareSum total = line (signed sum) (decimal squareSum ∷ decimal total ∷ [])

-- the text of what was counted
unfoldable pub tally_text : Tally → List ℕ
tally_text t = lines_text t.mixed t.k (lines_of 33 sample_at (at t.counts)) ++ last_line t.sum t.squares t.total
