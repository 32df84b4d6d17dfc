-- A list of which a part was overwritten.
use Rattle.std.specs.Prelude.{List, ◌++◌, ℕ, ◌+◌, length, take, drop}

-- l, with the elements of s at position start and behind it, and the rest as it was
unfoldable pub overwrite : {A : Type 0} → List A → ℕ → List A → List A
overwrite l start s = take start l ++ s ++ drop (start + length s) l
