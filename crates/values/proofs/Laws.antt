-- What holds of the written steps: the shares are below q, they sum to the string's number, and which words they read.
use Rattle.std.specs.Prelude.{◌≡◌, List, ℕ, ◌^◌, ◌<◌, length}
use Rattle.std.proofs.Math.Path.{ap}
use Rattle.std.proofs.Common.{◌∙◌, mod-eq_of_lt, arith}
use Rattle.residue.specs.Residue.{reduce, mul, sum, EachBelow}
use Rattle.residue.proofs.Laws.{mul-reduce}
use Rattle.residue.proofs.Sum.{sum_cong, sum-mul, sum_swap}
use Rattle.buffers.specs.Positions.{at, Same}
use Rattle.checks.specs.Width.{bit}
use Rattle.masking.specs.Sharing.{xor_all}
use Rattle.masking.specs.Xor.{xor_all_lt}
use Rattle.conversion.specs.Conversion.{row, value_words}
use Rattle.conversion.proofs.Rows.{row_local, row-sum}
use Rattle.values.specs.Values.{binary_sum, value_share}
use Rattle.values.proofs.Doubling.{binary_lt, binary_number}

module _ (q n : ℕ) (large : 2 < q) (k : ℕ) where
  pub share_lt : (x w : ℕ → ℕ) (i : ℕ) → value_share q n k x w i < q
  unfolding value_share
  share_lt x w i = binary_lt q (omega arith) k _

  pub share_local : (x x' w w' : ℕ → ℕ) → Same n x x' → Same (value_words n k) w w' → Same n (value_share q n k x w) (value_share q n k x' w')
  unfolding value_share binary_sum
  share_local x x' w w' e s i l = sum_cong q k _ _ (λ t h. ap (mul q (2 ^ t)) (row_local q n large k t x x' w w' h e s i l))

  -- over all shares: the string's number modulo q, whichever of the two is larger
  pub share-sum : (x : List ℕ) (w : ℕ → ℕ) → length x ≡ n → EachBelow (2 ^ k) x → sum q n (value_share q n k (at x) w) ≡ reduce q (xor_all x)
  unfolding value_share
  share-sum x w e h = unfold binary_sum in (sum_swap q n k (λ t i. mul q (2 ^ t) (row q n (at x) w t i)) ∙ sum_cong q k _ (λ t. mul q (2 ^ t) (bit (xor_all x) t)) bits) ∙ binary_number q k (xor_all x) ∙ ap (reduce q) (mod-eq_of_lt (xor_all_lt k x h))
    where
      bits : (t : ℕ) → t < k → sum q n (λ i. mul q (2 ^ t) (row q n (at x) w t i)) ≡ mul q (2 ^ t) (bit (xor_all x) t)
      bits t l = sum-mul q (2 ^ t) n (row q n (at x) w t) ∙ ap (mul q (2 ^ t)) (row-sum q n large x w t e) ∙ mul-reduce q (2 ^ t) (bit (xor_all x) t)
