-- The call of the sampler that records its steps (document 02, A.8).
use Rattle.std.specs.Prelude.{List, [], ◌∷◌, ◌++◌, ℕ, ◌*◌, length}
use Rattle.buffers.specs.Overwrite.{overwrite}
use Rattle.checks.specs.Checks.{Check, Outcome, verdict, settled, at_least}
use Rattle.totals.specs.Sample.{sample_words}
use Rattle.sampler.specs.Sampler.{Buffers, both, sample_checks, sampled}
use Rattle.records.specs.Records.{record_bytes, bytes}
use Rattle.steps.specs.Steps.{step_records, record_count}

-- 26: there are bytes for so many records
abbrev pub record_room : ℕ → ℕ → Check
record_room count room = at_least 26 (record_bytes * count) room

-- the sampler's, with words from position 0, then 26
abbrev pub step_checks : ℕ → ℕ → ℕ → List ℕ → List ℕ → List ℕ → ℕ → ℕ → ℕ → List Check
step_checks n k q x y words room area size = sample_checks n k q x y words 0 room area ++ (record_room (record_count n k) size ∷ [])

-- output and work area, and the list of bytes
pub record Lists : Type 0 where
  pub sampler : Buffers
  pub records : List ℕ

abbrev pub lists : Buffers → List ℕ → Lists
lists sampler records = record { sampler = sampler; records = records }

-- An accepted call answers how many words it took. Output and work area are then as the sampler leaves them, and the records stand in front of the
-- bytes.
unfoldable pub steps_sampled : ℕ → ℕ → ℕ → List ℕ → List ℕ → List ℕ → List ℕ → List ℕ → List ℕ → Outcome ℕ Lists
steps_sampled n k q x y words out work records =
    settled (verdict (step_checks n k q x y words (length out) (length work) (length records)) (sample_words n k)) (lists (both out work) records)
    (lists (sampled n k q x y words 0 out work).buffers (overwrite records 0 (bytes (step_records n k q x y words))))
