-- The records read the n shares of each string and their own words, and no others.
use Rattle.std.specs.Prelude.{◌≡◌}
use Rattle.std.proofs.Math.Path.{refl, ap, ap₂}
use mathlib.Core.List.{◌++◌}
use Prim.Native.Nat.{ℕ, zero, suc, ◌+◌, ◌*◌, ◌≤◌, ◌<◌}
use Rattle.std.proofs.Common.{le_refl}
use Rattle.std.proofs.Math.Nat.{mul-le-mul}
use native.Mathlib.Omega.{arith}
use Rattle.std.proofs.Math.Arith.{digits_lt}
use Rattle.residue.specs.Residue.{sub}
use Rattle.buffers.specs.Positions.{after, Same}
use Rattle.checks.specs.Width.{bit}
use Rattle.conversion.specs.Conversion.{bits_at, bit_words, pairs}
use Rattle.conversion.proofs.ZeroSharing.{transfer-same, refresh_share-same}
use Rattle.conversion.proofs.Laws.{pairs-twice, pairs_up, extend_cong, convert_local}
use Rattle.totals.specs.Sample.{string_share, sample_words}
use Rattle.totals.proofs.Totals.{string_share_local}
use Rattle.records.specs.Laws.{across-same, per_share-same}
use Rattle.steps.specs.Steps.{added_steps, round_steps, pair_steps, refresh_share_steps, refresh_steps, convert_steps, string_steps, sample_steps}

module _ (q bit n : ℕ) where
  pair_same : (p i m : ℕ) (A D : ℕ → ℕ) → i < n → m < n → Same n A D → pair_steps bit p i m A ≡ pair_steps bit p i m D
  pair_same p i m A D h l s = rw (s i h, s m l)

  share-same : (p i m c : ℕ) (w v A D : ℕ → ℕ) → i < n → m + c ≤ n → Same c w v → Same n A D → refresh_share_steps q bit p i m c w A ≡ refresh_share_steps q bit p i m c v D
  unfolding refresh_share_steps
  share-same p i m zero w v A D h l e s = refl
  share-same p i m (suc c) w v A D h l e s =
      let t = transfer-same q n i m (w 0) (v 0) A D (e 0 (omega arith)) s in
      ap₂ ◌++◌ (pair_same p i m _ _ h (omega arith) t) (share-same (suc p) i (suc m) c (λ j. w (suc j)) (λ j. v (suc j)) _ _ h (omega arith) (λ j k. e (suc j) (omega arith)) t)

  pub refresh_steps-same : (p i c : ℕ) (w v A D : ℕ → ℕ) → i + c ≤ n → Same (pairs c) w v → Same n A D → refresh_steps q bit p i c w A ≡ refresh_steps q bit p i c v D
  unfolding refresh_steps pairs
  refresh_steps-same p i zero w v A D l e s = refl
  refresh_steps-same p i (suc c) w v A D l e s =
      let f : Same c w v = λ j k. e j (omega arith) in
      ap₂ ◌++◌ (share-same p i (suc i) c w v A D (omega arith) (omega arith) f s)
      (refresh_steps-same (p + c) (suc i) c (after c w) (after c v) _ _ (omega arith) (λ j k. e (c + j) (omega arith)) (refresh_share-same q n i (suc i) c w v A D f s))

  round_same : (j : ℕ) (b d w v : ℕ → ℕ) → j < n → Same n b d → Same (pairs (suc j)) w v → round_steps q bit b w j ≡ round_steps q bit d v j
  unfolding round_steps pairs
  round_same zero b d w v l s e = rw (s 0 l)
  round_same (suc m) b d w v l s e =
      let c = convert_local q (suc m) b d w v (λ i h. s i (omega arith)) (λ i h. e i (omega arith)) in
      ap₂ (added_steps q bit (suc m)) (s (suc m) l) (extend_cong q (suc m) _ _ _ _ (λ i h. ap (λ (f : ℕ → ℕ). f i) c) (λ i h. e (pairs (suc m) + i) (omega arith)))

  pub convert_steps-same : (b d w v : ℕ → ℕ) → Same n b d → Same (bit_words n) w v → convert_steps q bit n b w ≡ convert_steps q bit n d v
  unfolding convert_steps
  convert_steps-same b d w v s e =
      let t = pairs-twice n in
      let c = convert_local q n b d w v s (λ i h. e i (omega arith)) in
      ap₂ ◌++◌ (across-same n _ _ (λ j l. round_same j b d w v l s (λ i h. e i (omega (arith, pairs_up (suc j) n l)))))
      (refresh_steps-same 1 0 n (after (pairs n) w) (after (pairs n) v) _ _ (omega arith) (λ i h. e (pairs n + i) (omega arith)) (λ i h. ap (λ (f : ℕ → ℕ). f i) c))

-- and so do those of a string, and of a sample
module _ (q n k : ℕ) where
  pub string_steps-same : (first : ℕ) (x x' w w' : ℕ → ℕ) (totals totals' : ℕ → ℕ → ℕ) → Same n x x' → Same (k * bit_words n) w w' → ((t : ℕ) → t ≤ k → Same n (totals t) (totals' t)) → string_steps q n k first x w totals ≡ string_steps q n k first x' w' totals'
  unfolding string_steps
  string_steps-same first x x' w w' totals totals' e f h =
      across-same k _ _ (λ t l. ap₂ ◌++◌ (convert_steps-same q (first + t) n (bits_at x t) (bits_at x' t) _ _ (λ i m. ap (λ (z : ℕ). bit z t) (e i m)) (λ i m. f _ (digits_lt l m))) (per_share-same n (first + t) 0 5 _ _ (h (suc t) l)))

  pub sample_steps-same : 2 < q → (x x' y y' w w' : ℕ → ℕ) → Same n x x' → Same n y y' → Same (sample_words n k) w w' → sample_steps q n k x y w ≡ sample_steps q n k x' y' w'
  unfolding sample_steps
  sample_steps-same large x x' y y' w w' e d f =
      let half : k * bit_words n + k * bit_words n ≡ sample_words n k = omega arith in
      let f₁ : Same (k * bit_words n) w w' = λ j m. f j (omega arith) in
      let f₂ : Same (k * bit_words n) (after (k * bit_words n) w) (after (k * bit_words n) w') = λ j m. f (k * bit_words n + j) (omega arith) in
      let upto : (z z' v v' : ℕ → ℕ) → Same n z z' → Same (k * bit_words n) v v' → (t : ℕ) → t ≤ k → Same n (string_share q n t z v) (string_share q n t z' v') = λ z z' v v' g s t l. string_share_local q n large t z z' v v' g (λ j m. s j (omega (arith, mul-le-mul l (le_refl (bit_words n))))) in
      ap₂ ◌++◌ (string_steps-same 0 x x' w w' _ _ e f₁ (upto x x' w w' e f₁))
      (string_steps-same k y y' _ _ _ _ d f₂ (λ t l i m. ap₂ (sub q) (upto x x' w w' e f₁ k (le_refl k) i m) (upto y y' _ _ d f₂ t l i m)))
