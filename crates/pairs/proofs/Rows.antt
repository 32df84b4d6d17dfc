-- The recurrence of the row.
use Rattle.std.specs.Prelude.{◌≡◌, List, [], ◌∷◌, ◌++◌, ℤ, ◌-ℤ◌}
use Rattle.std.proofs.Common.{sym, ap, ap₂, ◌∙◌}
use Prim.Native.Nat.{ℕ, suc, ◌+◌, ◌*◌, ◌<◌}
use native.Mathlib.Omega.{arith}
use Rattle.std.proofs.Math.IntN.{pos, suc_ℤ, pred_ℤ, pred-suc}
use Rattle.residue.proofs.Integers.{minus-suc-left}
use Rattle.buffers.specs.Positions.{at, table, Same}
use Rattle.buffers.specs.PositionLaws.{table_same, table-last}
use Rattle.pairs.specs.Pairs.{pairs}
use Rattle.pairs.specs.PairLaws.{pairs_next, pairs_outside}
use Rattle.pairs.specs.Rows.{pair_row, next_entry, next_row, row_at}

ends : (n : ℕ) (f g : ℕ → ℕ) → g 0 ≡ 0 → g (suc n) ≡ 0 → Same n f (λ j. g (suc j)) → 0 ∷ (table n f ++ (0 ∷ [])) ≡ table (suc (suc n)) g
unfolding table
ends n f g a b e =
    ap₂ (λ (c : ℕ) (l : List ℕ). c ∷ l) (sym a)
    (ap₂ (λ (l : List ℕ) (c : ℕ). l ++ (c ∷ [])) (table_same n f (λ j. g (suc j)) e) (sym b) ∙ sym (table-last n (λ j. g (suc j))))

module _ (k : ℕ) (h : k < 16) where
  entry_next : (j : ℕ) → j < 33 → next_entry (at (pair_row k)) j ≡ pairs (suc k) (pos (suc j) -ℤ pos 17)
  entry_next j l =
      let a : j + 1 ≡ suc j = omega arith in
      let b : j + 2 ≡ suc (suc j) = omega arith in
      let d : ℤ = pos (suc j) -ℤ pos 17 in
      let p : pred_ℤ d ≡ pos j -ℤ pos 17 = ap pred_ℤ (minus-suc-left j 17) ∙ pred-suc (pos j -ℤ pos 17) in
      let s : suc_ℤ d ≡ pos (suc (suc j)) -ℤ pos 17 = sym (minus-suc-left (suc j) 17) in
      rw (a, b, row_at k j (omega arith), row_at k (suc j) (omega arith), row_at k (suc (suc j)) (omega arith))
      (sym (pairs_next k h d ∙ ap₂ (λ (y z : ℤ). pairs k y + 2 * pairs k d + pairs k z) p s))

  pub row_next : next_row (at (pair_row k)) ≡ pair_row (suc k)
  unfolding pair_row
  row_next =
      let b : suc k < 17 = omega arith in
      ends 33 (next_entry (at (pair_row k))) (λ j. pairs (suc k) (pos j -ℤ pos 17)) (pairs_outside (suc k) h (pos 0 -ℤ pos 17) b) (pairs_outside (suc k) h (pos 34 -ℤ pos 17) b) entry_next
