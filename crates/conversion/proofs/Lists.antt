-- The lists of the steps in arrays.
use Rattle.std.specs.Prelude.{◌≡◌, List}
use Rattle.std.proofs.Math.Path.{ap}
use Rattle.std.proofs.Common.{◌∙◌, arith}
use Prim.Native.Nat.{ℕ, zero, suc, ◌+◌, ◌<◌}
use Rattle.buffers.specs.Positions.{at, after, Same, Below}
use Rattle.conversion.specs.Conversion.{pairs, xor_share, convert, refresh, convert_bit}
use Rattle.conversion.proofs.ZeroSharing.{refresh-same}
use Rattle.conversion.proofs.Laws.{xor_share_cong, convert_lt}
use Rattle.conversion.specs.Arrays.{Holds}

module _ (q : ℕ) (b w : ℕ → ℕ) where
  pub one_list : (k v : ℕ) (a : List ℕ) → k ≡ 1 → v ≡ b 0 → Holds 1 (λ i. v) a → Holds k (convert q k b w) a
  unfolding convert
  one_list k v a e h A = rw e (record { eight = A.eight; same = λ t l. A.same t l ∙ h })

  pub holds-below : (n : ℕ) (a : List ℕ) → b 0 < q → Holds n (convert q n b w) a → Below q n (at a)
  holds-below n a h H i l = rw (H.same i l) (convert_lt q n b w h i)

  -- the list for one share more
  pub share_added : (j k : ℕ) (a c : List ℕ) (r : ℕ → ℕ) (bit : ℕ) → j ≡ suc k → 0 < k → r ≡ after (pairs k) w → bit ≡ b k → Holds k (convert q k b w) a → Holds (k + 1) (xor_share q k (at a) r bit) c → Holds j (convert q j b w) c
  unfolding convert
  share_added j zero a c r bit d h s e A R = absurd (omega arith)
  share_added j (suc m) a c r bit d h s e A R =
      rw d (record { eight = R.eight; same = λ t l. R.same t (omega arith) ∙ rw e (ap (λ (f : ℕ → ℕ). f t) (xor_share_cong q (suc m) (b (suc m)) _ _ _ _ A.same (λ i x. ap (λ (f : ℕ → ℕ). f i) s))) })

  -- and all steps
  pub bit-done : (n : ℕ) (a : List ℕ) (r : ℕ → ℕ) → r ≡ after (pairs n) w → Holds n (convert q n b w) a → Same n (refresh q n r (at a)) (convert_bit q n b w)
  unfolding convert_bit
  bit-done n a r e A = rw e (refresh-same q n (after (pairs n) w) (at a) (convert q n b w) A.same)
