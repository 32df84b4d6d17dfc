-- What holds of every call that leaves shares in front of the output and zeros in front of the work area.
use Rattle.std.specs.Prelude.{◌≡◌, List, ◌++◌, ℕ, ◌<◌, Ok, length, take, drop, replicate}
use Rattle.std.proofs.Common.{sym, ap, ap₂, ◌∙◌}
use Rattle.std.proofs.lemmas.List.{length-replicate}
use Rattle.buffers.specs.Overwrite.{overwrite}
use Rattle.buffers.specs.Laws.{take-front, drop-front}
use Rattle.checks.specs.Checks.{Check, Outcome, Verdict, accepted, verdict, settled, room_checks, buffer_checks}
use Rattle.checks.specs.Laws.{Hold, accepted-holds, settled-accepted, settled-answer, settled_keeps, settled_same, settled-behind, words_around}
use Rattle.checks.specs.Answers.{outcome}
use Rattle.sampler.specs.Sampler.{Buffers, both, shares_written}

module _ (checks : List Check) (end : ℕ) (shares : List ℕ) (zeros : ℕ) (out work : List ℕ) where
  abbrev o : Outcome ℕ Buffers
  o = shares_written checks end shares zeros out work

  abbrev filled : List ℕ → Buffers
  filled s = both (overwrite out 0 s) (overwrite work 0 (replicate zeros 0))

  pub written-answer : o.answer ≡ verdict checks end
  written-answer = settled-answer (verdict checks end) (both out work) (filled shares)

  -- accepted or refused, it keeps what lies behind
  pub written-out-kept : (n : ℕ) → length shares ≡ n → drop n o.buffers.out ≡ drop n out
  written-out-kept n e = settled_keeps (verdict checks end) (both out work) (filled shares) (λ b. drop n b.out) (drop-front out shares n e)

  pub written-work-kept : drop zeros o.buffers.work ≡ drop zeros work
  written-work-kept = settled_keeps (verdict checks end) (both out work) (filled shares) (λ b. drop zeros b.work) (drop-front work (replicate zeros 0) zeros (length-replicate zeros 0))

  module _ (h : Hold checks) where
    pub written-accepted : o ≡ record { answer = accepted end; buffers = filled shares }
    written-accepted = settled-accepted end checks (both out work) (filled shares) h

    pub written-shares : (n : ℕ) → length shares ≡ n → take n o.buffers.out ≡ shares
    written-shares n e = ap (λ (o : Outcome ℕ Buffers). take n o.buffers.out) written-accepted ∙ take-front out shares n e

    pub written-zeros : take zeros o.buffers.work ≡ replicate zeros 0
    written-zeros =
        ap (λ (o : Outcome ℕ Buffers). take zeros o.buffers.work) written-accepted
        ∙ take-front work (replicate zeros 0) zeros (length-replicate zeros 0)

  -- the outcome is that of other checks with the same verdict, and of the same shares where they hold
  pub written_same : (checks' : List Check) (end' : ℕ) (shares' : List ℕ) → (Hold checks → shares ≡ shares') → verdict checks end ≡ verdict checks' end' → o ≡ shares_written checks' end' shares' zeros out work
  written_same checks' end' shares' s v =
      settled_same (verdict checks end) (both out work) (filled shares) (filled shares') (λ a e. ap filled (s (accepted-holds end a checks e)))
      ∙ ap (λ (u : Verdict ℕ). settled u (both out work) (filled shares')) v

-- what the code answers and leaves
pub answered : {end end' : ℕ} {out out' work work' : List ℕ} → end ≡ end' → out ≡ out' → work ≡ work' → outcome (Ok end) (both out work) ≡ outcome (Ok end') (both out' work')
answered e o w = rw (e, o, w)

-- the answer depends on the lengths of output and work area, not on what they held
pub written-before : (checks : ℕ → ℕ → List Check) (end : ℕ) (shares : List ℕ) (zeros : ℕ) (out work out' work' : List ℕ) → length out ≡ length out' → length work ≡ length work'
    → (shares_written (checks (length out) (length work)) end shares zeros out work).answer ≡ (shares_written (checks (length out') (length work')) end shares zeros out' work').answer
written-before checks end shares zeros out work out' work' e d =
    written-answer (checks (length out) (length work)) end shares zeros out work ∙ ap₂ (λ (room area : ℕ). verdict (checks room area) end) e d
    ∙ sym (written-answer (checks (length out') (length work')) end shares zeros out' work')

-- where the shares do not depend on words before `start` and behind the `count` from there on, the outcome does not
pub written-words : (first : List Check) (start count q n zeros : ℕ) (words words' shares shares' out work : List ℕ) → take count (drop start words) ≡ take count (drop start words')
    → (Hold first → (0 < count) × (shares ≡ shares')) → (end : ℕ)
    → shares_written (first ++ buffer_checks start count q words n (length out) zeros (length work)) end shares zeros out work ≡ shares_written (first ++ buffer_checks start count q words' n (length out) zeros (length work)) end shares' zeros out work
written-words first start count q n zeros words words' shares shares' out work e s end =
    settled-behind end first _ _ (both out work) _ _ (λ h.
    let f = s h in (
      ap (λ (cs : List Check). cs ++ room_checks n (length out) zeros (length work)) (words_around start count q f.0 words words' e),
      ap (λ (l : List ℕ). both (overwrite out 0 l) (overwrite work 0 (replicate zeros 0))) f.1,
    ))
