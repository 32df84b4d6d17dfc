-- What holds of every call that leaves shares in front of its output.
use Rattle.std.specs.Prelude.{◌≡◌, List, [], ◌∷◌, ◌++◌, ℕ, ◌<◌, length, take, drop}
use Rattle.std.proofs.Common.{ap, ◌∙◌}
use Rattle.residue.specs.Residue.{reduce, total}
use Rattle.buffers.specs.Overwrite.{overwrite}
use Rattle.buffers.specs.Laws.{take-front, drop-front}
use Rattle.checks.specs.Checks.{Check, Outcome, accepted, verdict, at_least, output_checks}
use Rattle.checks.specs.Laws.{Hold, settled-accepted, settled-answer, settled_keeps, settled-behind, words_around}
use Rattle.conversion.specs.Conversion.{shares_out}
use Rattle.conversion.specs.Secrecy.{Converts}

module _ (checks : List Check) (end : ℕ) (shares out : List ℕ) where
  abbrev o : Outcome ℕ (List ℕ)
  o = shares_out checks end shares out

  pub out-answer : o.answer ≡ verdict checks end
  out-answer = settled-answer (verdict checks end) out (overwrite out 0 shares)

  -- accepted or refused, it keeps what lies behind
  pub out-kept : (n : ℕ) → length shares ≡ n → drop n o.buffers ≡ drop n out
  out-kept n e = settled_keeps (verdict checks end) out (overwrite out 0 shares) (drop n) (drop-front out shares n e)

  module _ (h : Hold checks) where
    out-accepted : o ≡ record { answer = accepted end; buffers = overwrite out 0 shares }
    out-accepted = settled-accepted end checks out (overwrite out 0 shares) h

    out-shares : (n : ℕ) → length shares ≡ n → take n o.buffers ≡ shares
    out-shares n e = ap (λ (o : Outcome ℕ (List ℕ)). take n o.buffers) out-accepted ∙ take-front out shares n e

    -- its shares, with their residue
    pub out_converts : (n q r : ℕ) (s : List ℕ) → length shares ≡ n → shares ≡ s → reduce q (total s) ≡ r → Converts n q end s r o
    out_converts n q r s e d f =
        let g = out-shares n e ∙ d in
        record { answer = ap (λ (o : Outcome ℕ (List ℕ)). o.answer) out-accepted; shares = g; residue = ap (λ (l : List ℕ). reduce q (total l)) g ∙ f }

-- where the shares do not depend on words before `start` and behind the `count` from there on, the outcome does not
pub out-words : (first : List Check) (start count q n : ℕ) (words words' shares shares' out : List ℕ) → take count (drop start words) ≡ take count (drop start words')
    → (Hold first → (0 < count) × (shares ≡ shares')) → (end : ℕ)
    → shares_out (first ++ output_checks start count q words n (length out)) end shares out ≡ shares_out (first ++ output_checks start count q words' n (length out)) end shares' out
out-words first start count q n words words' shares shares' out e s end =
    settled-behind end first _ _ out _ _ (λ h.
    let f = s h in
    (ap (λ (cs : List Check). cs ++ (at_least 10 n (length out) ∷ [])) (words_around start count q f.0 words words' e), ap (overwrite out 0) f.1))
