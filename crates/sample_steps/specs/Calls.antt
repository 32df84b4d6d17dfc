-- What holds of every call.
use Rattle.std.specs.Prelude.{◌≡◌, length, get_or, take}
use Rattle.std.proofs.Math.Path.{refl, sym, ap, ap₂}
use Rattle.std.proofs.Common.{◌∙◌, zero-add, arith, le-leb}
use mathlib.Core.List.{List, [], ◌∷◌, ◌++◌}
use Prim.Native.Nat.{ℕ, ◌+◌, ◌-◌, ◌*◌, ◌≤◌, ◌<◌}
use Rattle.std.proofs.lemmas.Bool.{lt-leb}
use Rattle.std.proofs.Math.ListN.{drop}
use Rattle.buffers.specs.Overwrite.{overwrite}
use Rattle.buffers.specs.Laws.{front-part, drop-front}
use Rattle.buffers.specs.Positions.{at}
use Rattle.buffers.specs.PositionLaws.{take_same}
use Rattle.checks.specs.Checks.{Check, Outcome, Verdict, accepted, refused, verdict, settled, room_checks}
use Rattle.checks.specs.Laws.{Hold, fail, hold-front, accepted-holds, passes-part, passes-behind, refuses, settled-answer, settled-accepted, settled-behind, settled_keeps, settled-twice, words_around}
use Rattle.totals.specs.Sample.{sample_share, sample_words}
use Rattle.sampler.specs.Sampler.{Buffers, both, pair_checks, sample_checks, sampled}
use Rattle.sampler.specs.Accepted.{SharedPair, shared_pair, pair-large, words-some, call-checks}
use Rattle.sampler.proofs.Calls.{call-words}
use Rattle.records.specs.Records.{Step, step, none, step_bytes, record_bytes, bytes}
use Rattle.records.specs.Laws.{length-bytes}
use Rattle.steps.specs.Steps.{step_records, record_count}
use Rattle.steps.specs.Laws.{sample_steps-same}
use Rattle.steps.specs.Count.{record_count_lem, records-at, records-last}
use Rattle.steps.specs.Fields.{Proper, records-proper}
use Rattle.sample_steps.specs.SampleSteps.{Lists, record_room, step_checks, lists, steps_sampled}

module _ (n k q : ℕ) (x y words out work records : List ℕ) where
  -- the sampler's checks, and 26
  abbrev checks : List Check
  checks = sample_checks n k q x y words 0 (length out) (length work)

  abbrev room : List Check
  room = record_room (record_count n k) (length records) ∷ []

  abbrev size : ℕ
  size = record_bytes * record_count n k

  abbrev before : Lists
  before = lists (both out work) records

  abbrev after : Lists
  after = lists (sampled n k q x y words 0 out work).buffers (overwrite records 0 (bytes (step_records n k q x y words)))

  size-bytes : length (bytes (step_records n k q x y words)) ≡ size
  size-bytes = length-bytes (step_records n k q x y words) ∙ ap (λ (c : ℕ). record_bytes * c) (record_count_lem n k q x y words)

  sampler-answer : (sampled n k q x y words 0 out work).answer ≡ verdict checks (0 + sample_words n k)
  unfolding sampled
  sampler-answer = settled-answer (verdict checks (0 + sample_words n k)) (both out work) _

  by_verdict : {v : Verdict ℕ} → verdict (checks ++ room) (sample_words n k) ≡ v → steps_sampled n k q x y words out work records ≡ settled v before after
  unfolding steps_sampled
  by_verdict e = ap (λ (v : Verdict ℕ). settled v before after) e

  -- ---- every call: answer, output and work area are the sampler's, or it is refused with 26

  -- where the list has the bytes
  pub steps-sampled : record_bytes * record_count n k ≤ length records
      → ((steps_sampled n k q x y words out work records).answer ≡ (sampled n k q x y words 0 out work).answer)
      × ((steps_sampled n k q x y words out work records).buffers.sampler ≡ (sampled n k q x y words 0 out work).buffers)
  unfolding sampled
  steps-sampled h =
      let v = verdict checks (0 + sample_words n k) in
      let e : steps_sampled n k q x y words out work records ≡ settled v before after = by_verdict (passes-behind (sample_words n k) checks room (le-leb _ _ h, tt) ∙ ap (verdict checks) (sym (zero-add (sample_words n k)))) in (
        ap (λ (o : Outcome ℕ Lists). o.answer) e ∙ settled-answer v before after ∙ sym sampler-answer,
        ap (λ (o : Outcome ℕ Lists). o.buffers.sampler) e ∙ settled-twice v (both out work) _ (λ (l : Lists). l.sampler) before after refl refl,
      )

  -- where the sampler refuses
  pub steps-refused : (c p : ℕ) → (sampled n k q x y words 0 out work).answer ≡ refused c p
      → steps_sampled n k q x y words out work records ≡ record { answer = refused c p; buffers = lists (both out work) records }
  steps-refused c p e = by_verdict (refuses (0 + sample_words n k) (sample_words n k) c p checks room (sym sampler-answer ∙ e))

  -- where it accepts and the list is shorter
  pub steps_short : (a : ℕ) → (sampled n k q x y words 0 out work).answer ≡ accepted a → length records < record_bytes * record_count n k
      → steps_sampled n k q x y words out work records ≡ record { answer = refused 26 0; buffers = lists (both out work) records }
  steps_short a e h =
      by_verdict (passes-part (sample_words n k) checks room (accepted-holds (0 + sample_words n k) a checks (sym sampler-answer ∙ e))
      ∙ fail (sample_words n k) (record_room (record_count n k) (length records)) [] (lt-leb _ _ h))

  -- bytes behind those of the records keep their content
  pub records-kept : drop (record_bytes * record_count n k) (steps_sampled n k q x y words out work records).buffers.records ≡ drop (record_bytes * record_count n k) records
  unfolding steps_sampled
  records-kept = settled_keeps (verdict (checks ++ room) (sample_words n k)) before after (λ (l : Lists). drop size l.records) (drop-front records _ size size-bytes)

  -- words behind the first W do not matter
  pub steps-words : (words' : List ℕ) → take (sample_words n k) words ≡ take (sample_words n k) words' → steps_sampled n k q x y words out work records ≡ steps_sampled n k q x y words' out work records
  unfolding steps_sampled
  steps-words words' e =
      settled-behind (sample_words n k) (pair_checks n k q x y) _ _ before after _ (λ h.
      let P = shared_pair n k q x y h in (
        ap (λ (cs : List Check). cs ++ (room_checks n (length out) n (length work) ++ room)) (words_around 0 (sample_words n k) q (words-some P) words words' e),
        ap₂ lists (ap (λ (o : Outcome ℕ Buffers). o.buffers) (call-words n k q x y words 0 out work words' e))
            (ap (λ (l : List Step). overwrite records 0 (bytes l)) (sample_steps-same q n k (pair-large P) (at x) (at x) (at y) (at y) (at words) (at words') (λ i l. refl) (λ i l. refl) (take_same (sample_words n k) words words' e))),
      ))

  -- ---- one that passes every check

  module _ (h : Hold (step_checks n k q x y words (length out) (length work) (length records))) where
    pair : SharedPair n k q x y
    pair = shared_pair n k q x y (call-checks n k q x y words 0 out work (hold-front checks room h))

    -- answers how many words it took, and leaves the records in front of the bytes
    pub steps-accepted : steps_sampled n k q x y words out work records ≡ record { answer = accepted (sample_words n k); buffers = lists (sampled n k q x y words 0 out work).buffers (overwrite records 0 (bytes (step_records n k q x y words))) }
    unfolding steps_sampled
    steps-accepted = settled-accepted (sample_words n k) (checks ++ room) before after h

    module _ (p : ℕ) (l : p < record_count n k) where
      -- record p stands in the bytes from 8 × p on
      pub record_shown : take record_bytes (drop (record_bytes * p) (steps_sampled n k q x y words out work records).buffers.records) ≡ step_bytes (get_or (step_records n k q x y words) p none)
      record_shown =
          ap (λ (o : Outcome ℕ Lists). take record_bytes (drop (record_bytes * p) o.buffers.records)) steps-accepted
          ∙ front-part records (bytes (step_records n k q x y words)) (record_bytes * p) record_bytes (omega (arith, size-bytes)) ∙ records-at n k q x y words p l

      -- and its fields are in their ranges
      pub record_proper : Proper n k q (get_or (step_records n k q x y words) p none)
      record_proper = records-proper n k q pair.eight (pair-large pair) x y words p l

    -- the last n records show the output shares
    pub record_last : (i : ℕ) → i < n → get_or (step_records n k q x y words) (record_count n k - n + i) none ≡ step (2 * k - 1) 0 (i + 1) 5 (sample_share q n k (at x) (at y) (at words) i)
    record_last i l = records-last n k q x y words pair.one i l
