-- The class report in numbers (document 02, A.4): which samples came, how often, and their sums.
use Rattle.std.specs.Prelude.{Bool, true, cond, ◌&&◌, List, [], ◌∷◌, ◌++◌, map, ℕ, zero, suc, ◌*◌, ◌≤◌, eqb, ℤ, pos, nat_abs, ◌+ℤ◌, ◌-ℤ◌}
use Rattle.residue.specs.Residue.{total}
use Rattle.pairs.specs.Pairs.{sameℤ, indicator}

-- each sample is from -16 to 16
abbrev pub EachSmall : List ℤ → Type 0
EachSmall [] = Unit
EachSmall (z ∷ zs) = (nat_abs z ≤ 16) × EachSmall zs

-- ---- the lines

-- how many of the samples are d
unfoldable pub occurrences : ℤ → List ℤ → ℕ
occurrences d zs = total (map (λ z. indicator (sameℤ z d)) zs)

pub record Line : Type 0 where
  pub sample : ℤ
  pub count : ℕ

-- a line for a sample that occurs
abbrev pub line_of : ℤ → ℕ → List Line
line_of d times = cond (eqb times 0) [] (record { sample = d; count = times } ∷ [])

-- the lines of the values d 0, d 1, .. of which n 0, n 1, .. came
unfoldable pub lines_of : ℕ → (ℕ → ℤ) → (ℕ → ℕ) → List Line
lines_of zero d n = []
lines_of (suc m) d n = line_of (d 0) (n 0) ++ lines_of m (λ e. d (suc e)) (λ e. n (suc e))

-- the sample at position e, of which -16 is the first
abbrev pub sample_at : ℕ → ℤ
sample_at e = pos e -ℤ pos 16

-- and how many times it came
abbrev pub count_at : List ℤ → ℕ → ℕ
count_at zs e = occurrences (sample_at e) zs

-- from -16 to 16
abbrev pub lines : List ℤ → List Line
lines zs = lines_of 33 sample_at (count_at zs)

-- ---- the last line

unfoldable pub sumℤ : List ℤ → ℤ
sumℤ [] = pos 0
sumℤ (z ∷ zs) = z +ℤ sumℤ zs

abbrev pub square : ℤ → ℕ
square z = nat_abs z * nat_abs z

abbrev pub squares : List ℤ → ℕ
squares zs = total (map square zs)

-- ---- the k of the samples

-- 0 where there is none
abbrev pub first_of : List ℕ → ℕ
first_of [] = 0
first_of (k ∷ ks) = k

abbrev pub all_are : ℕ → List ℕ → Bool
all_are k [] = true
all_are k (j ∷ ks) = eqb j k && all_are k ks

-- all samples share one k
abbrev pub agree : List ℕ → Bool
agree ks = all_are (first_of ks) ks
