-- The lists of a round in arrays, and their records.
use mathlib.Core.Path.{◌≡◌, ap, ap₂, ◌∙◌}
use mathlib.Core.List.{List, [], ◌∷◌, ◌++◌}
use Prim.Native.Nat.{ℕ, zero, suc, ◌+◌, ◌≤◌, ◌<◌}
use native.Mathlib.Numerals.{add-one}
use native.Mathlib.Omega.{arith}
use Rattle.residue.specs.Residue.{add, mul}
use Rattle.buffers.specs.Positions.{at, after, Below}
use Rattle.conversion.specs.Conversion.{pairs, extend, less_twice, xor_bit, xor_share, convert}
use Rattle.conversion.proofs.Laws.{extend_lt, extend_cong}
use Rattle.conversion.specs.Arrays.{Holds}
use Rattle.records.specs.Records.{Step, across, step}
use Rattle.records.specs.Laws.{across-last, per_share-same}
use Rattle.steps.specs.Steps.{list_steps, added_steps, round_steps}

module _ (q j : ℕ) (A r : ℕ → ℕ) (B : List ℕ) (E : Holds (j + 1) (extend q j A r) B) where
  pub extended_lt : 0 < q → Below q (j + 1) (at B)
  extended_lt pos i l = rw (E.same i l) (extend_lt q pos j A r i)

  -- C of the array is that of B
  pub bit_added : (b : ℕ) (C : List ℕ) → Holds (j + 1) (xor_bit q b (at B)) C → Holds (j + 1) (xor_share q j A r b) C
  unfolding xor_share xor_bit
  bit_added b C X = record { eight = X.eight; same = λ i l. X.same i l ∙ same i l }
    where
      same : (i : ℕ) → i < j + 1 → xor_bit q b (at B) i ≡ xor_bit q b (extend q j A r) i
      same zero l = ap (λ (v : ℕ). add q (less_twice q b v) b) (E.same zero l)
      same (suc i) l = ap (less_twice q b) (E.same (suc i) l)

  -- three arrays with B, its products and C
  pub lists_added : (bit b : ℕ) (P C : List ℕ) → Holds (j + 1) (λ i. mul q (at B i) b) P → Holds (j + 1) (xor_share q j A r b) C → list_steps bit j b (at B) (at P) (at C) ≡ added_steps q bit j b (extend q j A r)
  unfolding xor_share
  lists_added bit b P C M X =
      ap (λ (l : List Step). (step bit (suc j) (suc j) 0 b ∷ []) ++ l)
      (ap₂ ◌++◌ (per_share-same (suc j) bit (suc j) 1 _ _ (λ i l. E.same i (omega arith)))
      (ap₂ ◌++◌ (per_share-same (suc j) bit (suc j) 2 _ _ (λ i l. M.same i (omega arith) ∙ ap (λ (v : ℕ). mul q v b) (E.same i (omega arith))))
      (per_share-same (suc j) bit (suc j) 3 _ _ (λ i l. X.same i (omega arith)))))

module _ (q bit : ℕ) (b w : ℕ → ℕ) where
  -- the round of a share that is added to the list of those before it
  pub round_added : (j : ℕ) (a : List ℕ) (r : ℕ → ℕ) → 1 ≤ j → Holds j (convert q j b w) a → r ≡ after (pairs j) w → added_steps q bit j (b j) (extend q j (at a) r) ≡ round_steps q bit b w j
  unfolding round_steps
  round_added zero a r h A e = absurd (omega arith)
  round_added (suc m) a r h A e = ap (added_steps q bit (suc m) (b (suc m))) (extend_cong q (suc m) _ _ _ _ A.same (λ i l. ap (λ (f : ℕ → ℕ). f i) e))

  pub rounds_next : (j : ℕ) → across (j + 1) (round_steps q bit b w) ≡ across j (round_steps q bit b w) ++ round_steps q bit b w j
  rounds_next j = rw (add-one j) (across-last j (round_steps q bit b w))

  pub rounds_one : (j : ℕ) → j ≡ 1 → across j (round_steps q bit b w) ≡ step bit 1 1 0 (b 0) ∷ []
  unfolding across round_steps
  rounds_one j e = rw e
