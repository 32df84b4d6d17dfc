-- Facts of the code's steps.
use mathlib.Core.Path.{◌≡◌, refl, ap, ◌∙◌}
use mathlib.Core.Bool.{Bool, true, false}
use mathlib.Core.List.{List, ◌++◌}
use Prim.Native.Nat.{ℕ, suc, ◌+◌, ◌-◌, ◌*◌, ◌/◌, ◌≤◌, ◌<◌}
use native.Mathlib.Nat.{zero-add, mul-le-mul}
use native.Mathlib.Numerals.{add-one}
use native.Mathlib.Omega.{arith}
use Rattle.residue.specs.Residue.{sub}
use Rattle.buffers.specs.Overwrite.{overwrite}
use Rattle.buffers.specs.Positions.{at, table, after, Same}
use Rattle.buffers.specs.PositionLaws.{front_at}
use Rattle.conversion.specs.Conversion.{bits_at, bit_words, convert_bit, row}
use Rattle.totals.specs.Sample.{string_share}
use Rattle.totals.specs.Totals.{signed_sum, totals_of}
use Rattle.totals.proofs.Totals.{signed_zero, totals-row}
use Rattle.records.specs.Records.{Step, across, Fits, Recorded}
use Rattle.records.specs.Laws.{across-same, across_from, per_share-same, fits-first, Left, left-all, left-next, left-none}
use Rattle.steps.specs.Steps.{convert_steps, bit_steps, string_steps, record_count}
use Rattle.steps.specs.Laws.{string_steps-same}

-- ---- the bits of a string

module _ (n k q : ℕ) (negative : Bool) (first : ℕ) (x w : ℕ → ℕ) (l : List ℕ) where
  -- the records of bit t, and of all
  abbrev pub steps_at : ℕ → List Step
  steps_at t = bit_steps q (first + t) n (bits_at x t) (after (t * bit_words n) w) (totals_of n q negative x w l (suc t))

  abbrev pub all_steps : List Step
  all_steps = string_steps q n k first x w (totals_of n q negative x w l)

  -- those of bit t as the code makes them, of the totals before it
  pub bit-steps : 0 < q → (t : ℕ) (m : List ℕ) (v : ℕ → ℕ) → m ≡ overwrite l 0 (table n (totals_of n q negative x w l t)) → v ≡ after (t * bit_words n) w
      → bit_steps q (first + t) n (bits_at x t) v (λ i. signed_sum q negative (at m i) (convert_bit q n (bits_at x t) v i)) ≡ steps_at t
  unfolding row
  bit-steps pos t m v e d =
      rw d (ap (λ (r : List Step). convert_steps q (first + t) n (bits_at x t) (after (t * bit_words n) w) ++ r)
      (per_share-same n (first + t) 0 5 _ _ (λ i h. totals-row n q pos negative x w l t m e (row q n x w t) (λ j g. refl) i h ∙ ap (λ (s : ℕ). totals_of n q negative x w l s i) (add-one t))))

  module _ (before : List ℕ) (position : ℕ) where
    -- the records of the bits from t on are left
    pub record BitsLeft (t : ℕ) (records : List ℕ) (end : ℕ) : Type 0 where
      pub left : Left before position all_steps records end (across (k - t) (λ i. steps_at (t + i)))

    pub bits-all : Fits before position all_steps → BitsLeft 0 before position
    unfolding string_steps
    bits-all h =
        let z : k - 0 ≡ k = omega arith in
        let e : across (k - 0) (λ i. steps_at (0 + i)) ≡ across k steps_at = ap (λ (c : ℕ). across c (λ i. steps_at (0 + i))) z ∙ across-same k _ _ (λ i g. ap steps_at (zero-add i)) in
        record { left = rw e (left-all before position all_steps h) }

    module _ (t : ℕ) {records : List ℕ} {end : ℕ} (U : BitsLeft t records end) where
      pub bits_fit : t < k → Fits records end (steps_at t)
      bits_fit h = fits-first _ _ _ _ (rw (across_from k t steps_at h) at U.left.room)

      pub bits-next : t < k → {records' : List ℕ} {end' : ℕ} → Recorded records end (steps_at t) records' end' → BitsLeft (t + 1) records' end'
      bits-next h d = record { left = left-next before position all_steps records end _ _ (rw (across_from k t steps_at h) at U.left) d }

      pub bits-done : t ≡ k → Recorded before position all_steps records end
      unfolding across
      bits-done e =
          let z : k - t ≡ 0 = omega arith in
          left-none before position all_steps records end (rw z at U.left)

-- ---- a sample: the strings' records with the totals from zeros on are those of the page

module _ (n k q : ℕ) (pos : 0 < q) (x w : ℕ → ℕ) (work : List ℕ) (zeros : Same n (at work) (λ i. 0)) where
  x-total : (t : ℕ) → Same n (λ i. signed_sum q false (at work i) (string_share q n t x w i)) (string_share q n t x w)
  x-total t i h = ap (λ (a : ℕ). signed_sum q false a (string_share q n t x w i)) (zeros i h) ∙ signed_zero q pos n t x w i

  pub x-steps : string_steps q n k 0 x w (λ t i. signed_sum q false (at work i) (string_share q n t x w i)) ≡ string_steps q n k 0 x w (λ t. string_share q n t x w)
  x-steps = string_steps-same q n k 0 x x w w _ _ (λ i h. refl) (λ i h. refl) (λ t l. x-total t)

  -- those of y, with x's rows already in the totals
  pub y-steps : (y v : ℕ → ℕ) (first : List ℕ) → first ≡ overwrite work 0 (table n (λ i. signed_sum q false (at work i) (string_share q n k x w i)))
      → string_steps q n k k y v (λ t i. signed_sum q true (at first i) (string_share q n t y v i)) ≡ string_steps q n k k y v (λ t i. sub q (string_share q n k x w i) (string_share q n t y v i))
  y-steps y v first e = string_steps-same q n k k y y v v _ _ (λ i h. refl) (λ i h. refl) (λ t l i h. ap (λ (a : ℕ). sub q a (string_share q n t y v i)) (front_at work n _ first e i h ∙ x-total k i h))

-- ---- the numbers that the code computes

pub record Small (n k : ℕ) : Type 0 where
  pub least : 30 ≤ 5 * n * (n + 1)
  pub most : 5 * n * (n + 1) ≤ 360
  pub records : record_count n k ≤ 5760

pub small : (n k : ℕ) → 2 ≤ n → n ≤ 8 → k ≤ 16 → Small n k
small n k two eight sixteen =
    let a : 10 ≤ 5 * n = omega arith in
    let b : 3 ≤ n + 1 = omega arith in
    let c : 5 * n ≤ 40 = omega arith in
    let d : n + 1 ≤ 9 = omega arith in
    let l : 10 * 3 ≤ 5 * n * (n + 1) = mul-le-mul a b in
    let m : 5 * n * (n + 1) ≤ 40 * 9 = mul-le-mul c d in
    let p : 5 * n * (n + 1) / 2 - 3 ≤ 180 = omega arith in
    let g : 2 * k ≤ 32 = omega arith in
    record { least = l; most = m; records = mul-le-mul g p }
