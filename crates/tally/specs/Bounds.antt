-- How large the numbers of a tally get.
use Rattle.std.specs.Prelude.{List, [], ◌∷◌, ℕ, ◌*◌, ◌^◌, ◌≤◌, ◌<◌, ℤ, nat_abs, length}
use Rattle.std.proofs.Math.Nat as N
use Rattle.std.proofs.Common.{arith}
use Rattle.residue.specs.Residue.{total}
use Rattle.residue.proofs.Integers.{nat_abs_plus}
use Rattle.buffers.specs.Positions.{at, Below}
use Rattle.buffers.specs.PositionLaws.{table_at}
use Rattle.pairs.specs.Pairs.{sameℤ}
use Rattle.pairs.specs.Sums.{indicator_le}
use Rattle.tally.specs.declared.Tally.{Tally}
use Rattle.tally.specs.Tally.{EachSmall, occurrences, sample_at, count_at, sumℤ, squares}
use Rattle.tally.specs.Counted.{tally_of}

pub occurrences_le : (d : ℤ) (zs : List ℤ) → occurrences d zs ≤ length zs
unfolding occurrences total
occurrences_le d [] = omega arith
occurrences_le d (z ∷ zs) = omega (arith, indicator_le (sameℤ z d), occurrences_le d zs)

pub sum_le : (zs : List ℤ) → EachSmall zs → nat_abs (sumℤ zs) ≤ 16 * length zs
unfolding sumℤ
sum_le [] h = omega arith
sum_le (z ∷ zs) h = omega (arith, nat_abs_plus z (sumℤ zs), h.0, sum_le zs h.1)

pub squares_le : (zs : List ℤ) → EachSmall zs → squares zs ≤ 256 * length zs
unfolding total
squares_le [] h = omega arith
squares_le (z ∷ zs) h = omega (arith, N.mul-le-mul h.0 h.0, squares_le zs h.1)

-- room for one sample more
pub record Room (t : Tally) : Type 0 where
  pub counted : Below (2 ^ 31) 33 (at t.counts)
  pub summed : nat_abs t.sum < 2 ^ 30
  pub squared : t.squares < 2 ^ 31
  pub totalled : t.total < 2 ^ 31

-- as there is behind the samples of a lesson file
pub tally_room : (ks : List ℕ) (zs : List ℤ) → EachSmall zs → length zs ≤ 60000 → Room (tally_of ks zs)
tally_room ks zs h l =
    record {
      counted = λ e m. rw (table_at 33 (count_at zs) e m) (omega (arith, occurrences_le (sample_at e) zs));
      summed = omega (arith, sum_le zs h);
      squared = omega (arith, squares_le zs h);
      totalled = omega arith;
    }
