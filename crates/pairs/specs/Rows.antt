-- The row of the numbers of pairs, and the next row by it.
use Rattle.std.specs.Prelude.{◌≡◌, List, [], ◌∷◌, ◌++◌, ◌-ℤ◌, set, replicate}
use Rattle.std.proofs.Common.{sym, ap, ◌∙◌}
use Prim.Native.Nat.{ℕ, suc, ◌+◌, ◌*◌, ◌^◌, ◌≤◌, ◌<◌}
use native.Mathlib.Omega.{arith}
use Rattle.std.proofs.Math.IntN.{pos, suc_ℤ, suc-pred}
use Rattle.residue.proofs.Integers.{minus-suc-left, minus-suc_right}
use Rattle.buffers.specs.Positions.{at, table, Below}
use Rattle.buffers.specs.PositionLaws.{table_at, table_same}
use Rattle.pairs.specs.Pairs.{sameℤ, indicator, pairs}
use Rattle.pairs.specs.PairLaws.{pairs-none, pairs_le, power_lt}

-- for each difference from -17 to 17
unfoldable pub pair_row : ℕ → List ℕ
pair_row k = table 35 (λ j. pairs k (pos j -ℤ pos 17))

-- the entry of the next row at position j + 1
abbrev pub next_entry : (ℕ → ℕ) → ℕ → ℕ
next_entry f j = f j + 2 * f (j + 1) + f (j + 2)

-- zero at both ends
abbrev pub next_row : (ℕ → ℕ) → List ℕ
next_row f = 0 ∷ (table 33 (next_entry f) ++ (0 ∷ []))

-- no bits: one pair, whose difference is 0
pub row-none : set (replicate 35 0) 17 1 ≡ pair_row 0
unfolding pair_row table
row-none = sym (table_same 35 _ (λ j. indicator (sameℤ (pos 0) (pos j -ℤ pos 17))) (λ j l. pairs-none (pos j -ℤ pos 17)))

module _ (k : ℕ) where
  abbrev entry : ℕ → ℕ
  entry j = pairs k (pos j -ℤ pos 17)

  pub row_at : (j : ℕ) → j < 35 → at (pair_row k) j ≡ entry j
  unfolding pair_row
  row_at j h = table_at 35 entry j h

  -- the entry beside the sample e - 16
  pub row_beside : (e : ℕ) → e < 33 → at (pair_row k) (1 + e) ≡ pairs k (pos e -ℤ pos 16)
  row_beside e h =
      let s : 1 + e ≡ suc e = omega arith in
      rw s (row_at (suc e) (omega arith) ∙ ap (pairs k) (minus-suc-left e 17 ∙ ap suc_ℤ (minus-suc_right e 16) ∙ suc-pred (pos e -ℤ pos 16)))

  pub row_below : k ≤ 16 → Below (10 ^ 10) 35 (at (pair_row k))
  row_below h j l = rw (row_at j l) (omega (arith, pairs_le k (pos j -ℤ pos 17), power_lt k h))
