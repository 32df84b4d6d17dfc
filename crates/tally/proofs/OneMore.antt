-- The tally after one sample more is that of all the samples.
use Rattle.std.specs.Prelude.{◌≡◌, refl, Bool, true, false, cond, not, ◌&&◌, ◌||◌, List, [], ◌∷◌, ◌++◌, map, ℕ, ◌+◌, ◌≤◌, ◌<◌, eqb, ℤ, nat_abs, ◌+ℤ◌, length, set}
use Rattle.std.proofs.Common.{sym, ◌∙◌, arith, eq-eqb, ne_eqb, length-append, length-set}
use Rattle.std.proofs.Math.Path.{ap}
use Rattle.std.proofs.Math.Bool.{and-true, and_assoc}
use Rattle.std.proofs.Math.Dec.{eqb-suc-zero}
use Rattle.std.proofs.Math.IntN.{+ℤ_assoc, +ℤ_idl, +ℤ_idr}
use Rattle.residue.specs.Residue.{total}
use Rattle.buffers.specs.Positions.{at, table}
use Rattle.buffers.specs.PositionLaws.{length-table, table_at, table_same, table_list, set_agrees}
use Rattle.pairs.specs.Pairs.{sameℤ, indicator}
use Rattle.pairs.specs.Integers.{position, position_lt, position-same}
use Rattle.tally.specs.Tally.{occurrences, sample_at, count_at, sumℤ, square, first_of, all_are, agree}
use Rattle.tally.specs.Counted.{tally_of}
use Rattle.tally.specs.OneMore.{with_one}

total-one : (f : ℤ → ℕ) (zs : List ℤ) (z : ℤ) → total (map f (zs ++ (z ∷ []))) ≡ total (map f zs) + f z
unfolding total
total-one f [] z = omega arith
total-one f (a ∷ zs) z = omega (arith, total-one f zs z)

sum_one : (zs : List ℤ) (z : ℤ) → sumℤ (zs ++ (z ∷ [])) ≡ sumℤ zs +ℤ z
unfolding sumℤ
sum_one [] z = +ℤ_idr z ∙ sym (+ℤ_idl z)
sum_one (a ∷ zs) z = ap (λ (s : ℤ). a +ℤ s) (sum_one zs z) ∙ sym (+ℤ_assoc a (sumℤ zs) z)

-- ---- the counts

module _ (zs : List ℤ) (z : ℤ) (h : nat_abs z ≤ 16) where
  abbrev after : ℕ → ℕ
  after = count_at (zs ++ (z ∷ []))

  count-one : (e : ℕ) → after e ≡ count_at zs e + indicator (eqb (position 16 z) e)
  unfolding occurrences
  count-one e = total-one (λ y. indicator (sameℤ y (sample_at e))) zs z ∙ ap (λ (b : Bool). count_at zs e + indicator b) (position-same 16 z h e)

  counts_one : set (table 33 (count_at zs)) (position 16 z) (at (table 33 (count_at zs)) (position 16 z) + 1) ≡ table 33 after
  counts_one =
      let p : ℕ = position 16 z in
      let t : List ℕ = table 33 (count_at zs) in
      let l : p < 33 = position_lt 16 z h in
      let m = length-table 33 (count_at zs) in
      let same : at t p + 1 ≡ after p = rw (table_at 33 (count_at zs) p l) (omega (arith, count-one p, ap indicator (eq-eqb p p refl))) in
      sym (table_list 33 _ (length-set t p _ ∙ m))
      ∙ table_same 33 _ after (λ e i. set_agrees t p _ after (omega arith) same e (λ n. table_at 33 (count_at zs) e i ∙ omega (arith, count-one e, ap indicator (ne_eqb p e (λ d. n (sym d))))))

-- ---- the k of the samples

first_one : (ks : List ℕ) (k : ℕ) → first_of (ks ++ (k ∷ [])) ≡ cond (eqb (length ks) 0) k (first_of ks)
first_one [] k = refl
first_one (j ∷ ks) k = rw (eqb-suc-zero (length ks))

all_one : (a : ℕ) (ks : List ℕ) (k : ℕ) → all_are a (ks ++ (k ∷ [])) ≡ all_are a ks && eqb k a
all_one a [] k = and-true (eqb k a)
all_one a (j ∷ ks) k = ap (λ (b : Bool). eqb j a && b) (all_one a ks k) ∙ sym (and_assoc (eqb j a) (all_are a ks) (eqb k a))

not_and : (p q : Bool) → not (p && q) ≡ not p || not q
not_and true q = refl
not_and false q = refl

mixed_one : (ks : List ℕ) (k : ℕ) → not (agree (ks ++ (k ∷ []))) ≡ not (agree ks) || not (eqb k (first_of (ks ++ (k ∷ []))))
mixed_one [] k = ap not (all_one k [] k)
mixed_one (j ∷ ks) k = ap not (all_one j (j ∷ ks) k) ∙ not_and (all_are j (j ∷ ks)) (eqb k j)

-- ---- all of it

pub tally_one : (ks : List ℕ) (zs : List ℤ) (k : ℕ) (z : ℤ) → nat_abs z ≤ 16 → length ks ≡ length zs → with_one (tally_of ks zs) k z ≡ tally_of (ks ++ (k ∷ [])) (zs ++ (z ∷ []))
tally_one ks zs k z h e = rw (counts_one zs z h, sum_one zs z, total-one square zs z, length-append zs (z ∷ []), mixed_one ks k, first_one ks k, e)
