-- Facts of the code's steps.
use mathlib.Core.Path.{◌≡◌, refl, sym, ap, ap₂, ◌∙◌}
use mathlib.Core.List.{List}
use Prim.Native.Nat.{ℕ, ◌+◌, ◌-◌, ◌≤◌, ◌<◌}
use native.Mathlib.Omega.{arith}
use Rattle.buffers.specs.Overwrite.{overwrite}
use Rattle.buffers.specs.Positions.{at, table, Same, Below}
use Rattle.buffers.specs.PositionLaws.{table_same, front_at, front-twice}
use Rattle.conversion.specs.Conversion.{row}
use Rattle.values.specs.Values.{value_share}
use Rattle.values.specs.Doubling.{doubled}
use Rattle.values.proofs.Doubling.{binary_lt, upper, upper-none, upper-next, upper-all}

-- what becomes of n totals
abbrev pub doubled_of : ℕ → ℕ → List ℕ → List ℕ → List ℕ
doubled_of n q totals row = table n (λ t. doubled q (at totals t) (at row t))

module _ (q n k : ℕ) (x w : ℕ → ℕ) where
  -- the shares of the bits from t on
  abbrev pub upper_shares : ℕ → ℕ → ℕ
  upper_shares t i = upper q k (λ s. row q n x w s i) t

  -- before the first turn, n zeros over what the output held
  module _ (l z : List ℕ) (zeros : z ≡ overwrite l 0 (table n (λ i. 0))) where
    pub upper_start : z ≡ overwrite z 0 (table n (upper_shares k))
    upper_start = zeros ∙ ap (overwrite l 0) (table_same n _ _ (λ i h. sym (upper-none q k (λ s. row q n x w s i)))) ∙ sym (front-twice n (λ i. 0) (upper_shares k) l z _ zeros refl)

    -- behind the last, the shares of the value
    pub upper-end : (t : ℕ) (m : List ℕ) → t ≡ 0 → m ≡ overwrite z 0 (table n (upper_shares t)) → m ≡ overwrite l 0 (table n (value_share q n k x w))
    unfolding value_share
    upper-end t m d f = front-twice n (λ i. 0) (upper_shares t) l z m zeros f ∙ ap (overwrite l 0) (table_same n _ _ (λ i h. ap (upper q k (λ s. row q n x w s i)) d ∙ upper-all q k (λ s. row q n x w s i)))

  module _ (t : ℕ) (z m : List ℕ) (e : m ≡ overwrite z 0 (table n (upper_shares t))) where
    upper-at : Same n (at m) (upper_shares t)
    upper-at = front_at z n (upper_shares t) m e

    pub upper-below : 0 < q → Below q n (at m)
    upper-below positive i h = rw (upper-at i h) (binary_lt q positive (k - t) _)

    -- a turn puts in the bit below
    pub upper_turn : (r u : List ℕ) → 0 < t → t ≤ k → Same n (at r) (row q n x w (t - 1)) → u ≡ overwrite m 0 (table n (λ i. doubled q (at m i) (at r i))) → u ≡ overwrite z 0 (table n (upper_shares (t - 1)))
    upper_turn r u h l s d =
        let f : t - 1 + 1 ≡ t = omega arith in
        front-twice n (upper_shares t) _ z m u e d
        ∙ ap (overwrite z 0) (table_same n _ _ (λ i g. ap₂ (doubled q) (upper-at i g ∙ ap (upper q k (λ s. row q n x w s i)) (sym f)) (s i g) ∙ upper-next q k (λ s. row q n x w s i) (t - 1) (omega arith)))
