-- The first element of a list that is not below a limit.
use Rattle.std.specs.Prelude.{cond, List, [], ◌∷◌, ℕ, suc, ltb, Option, Some, None}

-- its position, where the list's own first element has position i
unfoldable pub first_from : ℕ → ℕ → List ℕ → Option ℕ
first_from limit i [] = None
first_from limit i (x ∷ l) = cond (ltb x limit) (first_from limit (suc i) l) (Some i)

abbrev pub first_not_below : ℕ → List ℕ → Option ℕ
first_not_below limit l = first_from limit 0 l
