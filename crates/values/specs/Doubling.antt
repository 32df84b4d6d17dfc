-- One step of a binary sum by doubling.
use Prim.Native.Nat.{ℕ}
use Rattle.residue.specs.Residue.{add}

-- twice a sum, and a term
abbrev pub doubled : ℕ → ℕ → ℕ → ℕ
doubled q s a = add q (add q s s) a
