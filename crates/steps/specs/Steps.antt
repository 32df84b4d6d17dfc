-- The step records of a sample (document 02, A.8): each value of document 01's steps as it comes about.
-- Shares, rounds and words are functions of the position, counted from 0; in a record, rounds, pairs and shares are counted from 1.
use Rattle.std.specs.Prelude.{List, [], ◌∷◌, ◌++◌, ℕ, zero, suc, ◌+◌, ◌-◌, ◌*◌, ◌/◌}
use Rattle.residue.specs.Residue.{mul, sub}
use Rattle.buffers.specs.Positions.{at, after}
use Rattle.conversion.specs.Conversion.{bits_at, bit_words, pairs, extend, xor_bit, convert, transfer, refresh_share}
use Rattle.totals.specs.Sample.{string_share}
use Rattle.records.specs.Records.{Step, step, across, per_share}

-- ---- steps 1 and 2

-- Round j + 1: the share b of the bit, then three lists of j + 1 shares: B, its products with b, and C.
abbrev pub list_steps : ℕ → ℕ → ℕ → (ℕ → ℕ) → (ℕ → ℕ) → (ℕ → ℕ) → List Step
list_steps bit j b B P C =
    (step bit (suc j) (suc j) 0 b ∷ []) ++ (per_share (suc j) bit (suc j) 1 B ++ (per_share (suc j) bit (suc j) 2 P ++ per_share (suc j) bit (suc j) 3 C))

-- Pair p of step 3, of the shares i and m, which are then those of A.
abbrev pub pair_steps : ℕ → ℕ → ℕ → ℕ → (ℕ → ℕ) → List Step
pair_steps bit p i m A = step bit p (suc i) 4 (A i) ∷ step bit p (suc m) 4 (A m) ∷ []

module _ (q bit : ℕ) where
  -- where C is that of B and b
  abbrev pub added_steps : ℕ → ℕ → (ℕ → ℕ) → List Step
  added_steps j b B = list_steps bit j b B (λ i. mul q (B i) b) (xor_bit q b B)

  -- Round 1 has b(1) alone. In another, B comes of the list for all shares of the bit before it.
  unfoldable pub round_steps : (ℕ → ℕ) → (ℕ → ℕ) → ℕ → List Step
  round_steps b w zero = step bit 1 1 0 (b 0) ∷ []
  round_steps b w (suc m) = added_steps (suc m) (b (suc m)) (extend q (suc m) (convert q (suc m) b w) (after (pairs (suc m)) w))

  -- ---- step 3

  -- the pairs of share i with the c shares from m on, the first of them pair p: see refresh_share
  unfoldable pub refresh_share_steps : ℕ → ℕ → ℕ → ℕ → (ℕ → ℕ) → (ℕ → ℕ) → List Step
  refresh_share_steps p i m zero w A = []
  refresh_share_steps p i m (suc c) w A = pair_steps bit p i m (transfer q i m (w 0) A) ++ refresh_share_steps (suc p) i (suc m) c (λ j. w (suc j)) (transfer q i m (w 0) A)

  -- the pairs of the c shares from i on, the first of them pair p: see refresh_from
  unfoldable pub refresh_steps : ℕ → ℕ → ℕ → (ℕ → ℕ) → (ℕ → ℕ) → List Step
  refresh_steps p i zero w A = []
  refresh_steps p i (suc c) w A = refresh_share_steps p i (suc i) c w A ++ refresh_steps (p + c) (suc i) c (after c w) (refresh_share q i (suc i) c w A)

  -- ---- a bit: all steps, and the output shares with the bit in them

  unfoldable pub convert_steps : ℕ → (ℕ → ℕ) → (ℕ → ℕ) → List Step
  convert_steps n b w = across n (round_steps b w) ++ refresh_steps 1 0 n (after (pairs n) w) (convert q n b w)

  abbrev pub bit_steps : ℕ → (ℕ → ℕ) → (ℕ → ℕ) → (ℕ → ℕ) → List Step
  bit_steps n b w totals = convert_steps n b w ++ per_share n bit 0 5 totals

module _ (q n k : ℕ) where
  -- ---- a string, whose bits are numbered from `first` on; after t of them the output shares are `totals t`

  unfoldable pub string_steps : ℕ → (ℕ → ℕ) → (ℕ → ℕ) → (ℕ → ℕ → ℕ) → List Step
  string_steps first x w totals = across k (λ t. bit_steps q (first + t) n (bits_at x t) (after (t * bit_words n) w) (totals (suc t)))

  -- ---- a sample: the rows of x are added up, and those of y, whose words stand behind, are taken off

  unfoldable pub sample_steps : (ℕ → ℕ) → (ℕ → ℕ) → (ℕ → ℕ) → List Step
  sample_steps x y w =
      string_steps 0 x w (λ t. string_share q n t x w)
      ++ string_steps k y (after (k * bit_words n) w) (λ t i. sub q (string_share q n k x w i) (string_share q n t y (after (k * bit_words n) w) i))

-- the records of a call
abbrev pub step_records : ℕ → ℕ → ℕ → List ℕ → List ℕ → List ℕ → List Step
step_records n k q x y words = sample_steps q n k (at x) (at y) (at words)

-- how many a bit has, and a sample
abbrev pub bit_count : ℕ → ℕ
bit_count n = 5 * n * (n + 1) / 2 - 3

abbrev pub record_count : ℕ → ℕ → ℕ
record_count n k = 2 * k * bit_count n
