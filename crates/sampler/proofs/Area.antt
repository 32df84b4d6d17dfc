-- What the call of version 2 accepted, which asked for 2kn work positions and left zeros in them, the call that asks for n accepts too (document
-- 02, A.6).
use Rattle.std.specs.Prelude.{◌≡◌, Bool, true, not, List, [], ◌∷◌, ◌++◌, ◌≢◌, ℕ, ◌+◌, ◌*◌, ◌≤◌, eqb, length, drop}
use Rattle.std.proofs.Math.Path.{refl}
use Rattle.std.proofs.Common.{sym, ap, ◌∙◌, append_assoc, arith, le-leb}
use Rattle.std.proofs.lemmas.Bool.{false≢true}
use Rattle.std.proofs.Math.Nat as N
use Rattle.checks.specs.Checks.{Check, Outcome, Verdict, accepted, refused, verdict, checked, at_least, word_checks, buffer_checks}
use Rattle.checks.specs.Laws.{Hold, hold-both, accepts, accepted-holds, refuses, refuses-alike}
use Rattle.checks.specs.Refusals.{All, refusal_passes, refuses-before}
use Rattle.totals.specs.Sample.{sample_words, sample_shares}
use Rattle.sampler.specs.Sampler.{Buffers, pair_checks, shares_written, sampled}
use Rattle.sampler.specs.Accepted.{SharedPair, shared_pair, fit-first, fit_drawn, fit-room, fit-holds}
use Rattle.sampler.proofs.Written.{written-answer, written-accepted}

abbrev not_eleven : ℕ → ℕ → Bool
not_eleven code position = not (eqb code 11)

-- ---- any call that puts the checks `first` before those of its buffers

module _ (first : List Check) (start count q n : ℕ) (words : List ℕ) (end : ℕ) (shares out work : List ℕ) where
  -- where so many work positions are asked for, and left as zeros
  abbrev asking : ℕ → List Check
  asking area = first ++ buffer_checks start count q words n (length out) area (length work)

  abbrev o : ℕ → Outcome ℕ Buffers
  o area = shares_written (asking area) end shares area out work

  -- accepted with one area, a call is accepted with one that is not larger, and answer and output are the same
  pub area-accepted : (old new : ℕ) → (Hold first → new ≤ old) → (answer : ℕ) → (o old).answer ≡ accepted answer → ((o new).answer ≡ (o old).answer) × ((o new).buffers.out ≡ (o old).buffers.out)
  area-accepted old new le answer e =
      let h = accepted-holds end answer (asking old) (sym (written-answer (asking old) end shares old out work) ∙ e) in
      let f = fit-first first start count q words n old out work h in
      let r = fit-room first start count q words n old out work h in
      let g = fit-holds first start count q words n new out work f (fit_drawn first start count q words n old out work h) (r.0, N.le_trans (le f) r.1) in
      let a = written-accepted (asking old) end shares old out work h in
      let b = written-accepted (asking new) end shares new out work g in
      (ap (λ (o : Outcome ℕ Buffers). o.answer) b ∙ sym (ap (λ (o : Outcome ℕ Buffers). o.answer) a), ap (λ (o : Outcome ℕ Buffers). o.buffers.out) b ∙ sym (ap (λ (o : Outcome ℕ Buffers). o.buffers.out) a))

  -- the checks but 11
  abbrev others : List Check
  others = first ++ (word_checks start count q words ++ (at_least 10 n (length out) ∷ []))

  eleven_last : (area : ℕ) → (o area).answer ≡ verdict (others ++ (at_least 11 area (length work) ∷ [])) end
  eleven_last area =
      written-answer (asking area) end shares area out work
      ∙ ap (λ (cs : List Check). verdict cs end) (sym (append_assoc first (word_checks start count q words ++ (at_least 10 n (length out) ∷ [])) (at_least 11 area (length work) ∷ [])))

  refused-other : (old new code position : ℕ) → code ≢ 11 → (o old).answer ≡ refused code position → (o new).answer ≡ refused code position
  refused-other old new code position other e =
      eleven_last new ∙ refuses-before end code position others (at_least 11 old (length work)) (at_least 11 new (length work)) other (sym (eleven_last old) ∙ e)

  -- where no other check has the number 11, one that 11 turned down is accepted where the work area has room for what is asked
  pub area_turned_down : (old new position : ℕ) → All not_eleven others ≡ true → (o old).answer ≡ refused 11 position → new ≤ length work → (o new).answer ≡ accepted end
  area_turned_down old new position none e r = go (checked others) refl
    where
      go : (v : Verdict Unit) → checked others ≡ v → (o new).answer ≡ accepted end
      go (accepted u) h =
          eleven_last new
          ∙ accepts end (others ++ (at_least 11 new (length work) ∷ [])) (hold-both others (at_least 11 new (length work) ∷ []) (accepted-holds tt u others h) (le-leb _ _ r, tt))
      go (refused code p) h =
          absurd (false≢true (refusal_passes not_eleven end 11 position others none
          (refuses-alike tt end code p others h ∙ sym (refuses tt end code p others (at_least 11 old (length work) ∷ []) h) ∙ sym (eleven_last old) ∙ e)))

  -- a refusal with another number than 11 does not depend on the area that is asked for
  pub area-refused : (old new code position : ℕ) → code ≢ 11 → ((o old).answer ≡ refused code position → (o new).answer ≡ refused code position) × ((o new).answer ≡ refused code position → (o old).answer ≡ refused code position)
  area-refused old new code position other = (refused-other old new code position other, refused-other new old code position other)

-- n is at most 2kn
pub area_smaller : {n k q : ℕ} {x y : List ℕ} → SharedPair n k q x y → n ≤ 2 * k * n
area_smaller {n} {k} P =
    let b : 1 ≤ 2 * k = omega (arith, P.one) in
    omega (arith, N.mul-le-mul b (N.le_refl n))

-- ---- the sampler

module _ (n k q : ℕ) (x y words : List ℕ) (start : ℕ) (out work : List ℕ) where
  -- the outcome in version 2, and now
  abbrev before : Outcome ℕ Buffers
  before =
      shares_written (pair_checks n k q x y ++ buffer_checks start (sample_words n k) q words n (length out) (2 * k * n) (length work)) (start + sample_words n k) (sample_shares n k q x y (drop start words)) (2 * k * n) out work

  abbrev now : Outcome ℕ Buffers
  now = sampled n k q x y words start out work

  pub accepted-before : (answer : ℕ) → before.answer ≡ accepted answer → (now.answer ≡ before.answer) × (now.buffers.out ≡ before.buffers.out)
  unfolding sampled
  accepted-before =
      area-accepted (pair_checks n k q x y) start (sample_words n k) q n words (start + sample_words n k) (sample_shares n k q x y (drop start words)) out work (2 * k * n) n
      (λ h. area_smaller (shared_pair n k q x y h))

  pub turned_down_before : (position : ℕ) → before.answer ≡ refused 11 position → n ≤ length work → now.answer ≡ accepted (start + sample_words n k)
  unfolding sampled
  turned_down_before position =
      area_turned_down (pair_checks n k q x y) start (sample_words n k) q n words (start + sample_words n k) (sample_shares n k q x y (drop start words)) out work (2 * k * n) n position refl

  pub refused-before : (code position : ℕ) → code ≢ 11 → (before.answer ≡ refused code position → now.answer ≡ refused code position) × (now.answer ≡ refused code position → before.answer ≡ refused code position)
  unfolding sampled
  refused-before =
      area-refused (pair_checks n k q x y) start (sample_words n k) q n words (start + sample_words n k) (sample_shares n k q x y (drop start words)) out work (2 * k * n) n
