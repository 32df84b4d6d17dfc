-- How many records a sample has: the walk, where nothing is to hold of a record. And the last of them.
use Rattle.std.specs.Prelude.{◌≡◌, List, ◌++◌, ℕ, zero, suc, ◌+◌, ◌-◌, ◌*◌, ◌≤◌, ◌<◌, length, get_or, take, drop}
use Rattle.std.proofs.Common.{sym, ap, ◌∙◌, append_assoc, add-one, arith, length-append, get_or-append-add}
use Rattle.residue.specs.Residue.{sub}
use Rattle.buffers.specs.Positions.{at, after}
use Rattle.conversion.specs.Conversion.{bits_at, bit_words}
use Rattle.totals.specs.Sample.{string_share, sample_share}
use Rattle.records.specs.Records.{Step, step, none, step_bytes, record_bytes, bytes, across, per_share}
use Rattle.records.specs.Laws.{across-last, across-at, length-per_share, bytes-at}
use Rattle.steps.specs.Steps.{convert_steps, bit_steps, string_steps, sample_steps, step_records, record_count}
use Rattle.steps.specs.Walk.{BitRecords, sample-each}

module _ (q n : ℕ) where
  nothing : (bit : ℕ) (b w totals : Unit → ℕ → ℕ) → BitRecords {E = Unit} (λ r. Unit) q n bit b w totals
  nothing bit b w totals =
      record {
        share = λ j l. tt;
        extended = λ j i one l m. tt;
        product = λ j i one l m. tt;
        converted = λ j i one l m. tt;
        Refreshed = λ A. Unit;
        unrefreshed = tt;
        transferred = λ A i m j a h l k. tt;
        pair = λ A p s a one l h. tt;
        total = λ i l. tt;
      }

module _ (n k q : ℕ) (x y words : List ℕ) where
  pub record_count_lem : length (step_records n k q x y words) ≡ record_count n k
  record_count_lem = (sample-each _ q n k (λ e. at x) (λ e. at y) (λ e. at words) (λ t l. nothing q n _ _ _ _) (λ t l. nothing q n _ _ _ _)).count tt

  -- record p stands in the bytes from 8 × p on
  pub records-at : (p : ℕ) → p < record_count n k → take record_bytes (drop (record_bytes * p) (bytes (step_records n k q x y words))) ≡ step_bytes (get_or (step_records n k q x y words) p none)
  records-at p l = bytes-at (step_records n k q x y words) p (rw record_count_lem l)

-- ---- the last records of a sample

-- of a list that ends with output shares
shares-behind : (n bit : ℕ) (f : ℕ → ℕ) (l m : List Step) → l ≡ m ++ per_share n bit 0 5 f → (i : ℕ) → i < n → get_or l (length l - n + i) none ≡ step bit 0 (suc i) 5 (f i)
shares-behind n bit f l m e i h =
    let d : length (m ++ per_share n bit 0 5 f) - n + i ≡ length m + i = omega (arith, length-append m (per_share n bit 0 5 f), length-per_share bit 0 5 f n) in
    rw (e, d) (get_or-append-add m (per_share n bit 0 5 f) i none ∙ across-at n (λ j. step bit 0 (suc j) 5 (f j)) i h)

-- the last n records show the output shares
pub records-last : (n k q : ℕ) (x y words : List ℕ) → 1 ≤ k → (i : ℕ) → i < n → get_or (step_records n k q x y words) (record_count n k - n + i) none ≡ step (2 * k - 1) 0 (i + 1) 5 (sample_share q n k (at x) (at y) (at words) i)
unfolding sample_steps string_steps sample_share
records-last n zero q x y words one i l = absurd (omega arith)
records-last n (suc m) q x y words one i l =
    let share = sample_share q n (suc m) (at x) (at y) (at words) in
    let v = after (suc m * bit_words n) (at words) in
    let s = string_steps q n (suc m) 0 (at x) (at words) (λ t. string_share q n t (at x) (at words)) in
    let g : ℕ → List Step = λ t. bit_steps q (suc m + t) n (bits_at (at y) t) (after (t * bit_words n) v) (λ i. sub q (string_share q n (suc m) (at x) (at words) i) (string_share q n (suc t) (at y) v i)) in
    let c = convert_steps q (suc m + m) n (bits_at (at y) m) (after (m * bit_words n) v) in
    let b : 2 * suc m - 1 ≡ suc m + m = omega arith in
    rw (b, add-one i, ← record_count_lem n (suc m) q x y words)
    (shares-behind n (suc m + m) share (step_records n (suc m) q x y words) (s ++ (across m g ++ c))
    (ap (λ (r : List Step). s ++ r) (across-last m g ∙ sym (append_assoc (across m g) c _)) ∙ sym (append_assoc s (across m g ++ c) _)) i l)
