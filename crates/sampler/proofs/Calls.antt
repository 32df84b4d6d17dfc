-- What holds of every call.
use Rattle.std.specs.Prelude.{◌≡◌, List, ℕ, ◌+◌, ◌<◌, length, take, drop, replicate}
use Rattle.std.proofs.Math.Path.{refl}
use Rattle.std.proofs.Common.{sym, ap, ◌∙◌, le_refl, arith, take-take}
use Rattle.residue.specs.Residue.{reduce, reduceℤ, total, EachBelow}
use Rattle.residue.proofs.Integers.{reduceℤ-minus}
use Rattle.residue.proofs.Sum.{sum_cong, sum_list}
use Rattle.buffers.specs.Overwrite.{overwrite}
use Rattle.buffers.specs.Positions.{at, Same}
use Rattle.buffers.specs.PositionLaws.{length-table, table_at, table_below, table_same, take_same}
use Rattle.checks.specs.Checks.{Outcome, accepted}
use Rattle.checks.specs.Laws.{Hold}
use Rattle.masking.specs.Sharing.{xor_all}
use Rattle.binomial.specs.Signed.{weight, difference_of_weights}
use Rattle.totals.specs.Sample.{sample_share, sample_shares, sample_words}
use Rattle.sampler.specs.Sampler.{Buffers, both, pair_checks, sample_checks, shares_written, sampled}
use Rattle.sampler.specs.Secrecy.{SharesOf, Samples}
use Rattle.sampler.specs.Laws.{share_lt, share_local, share-sum}
use Rattle.sampler.specs.Accepted.{SharedPair, shared_pair, pair-large, words-some, call-checks}
use Rattle.sampler.proofs.Written.{written-out-kept, written-work-kept, written-accepted, written-shares, written-zeros, written-before, written-words}

pub length-shares : (n k q : ℕ) (x y words : List ℕ) → length (sample_shares n k q x y words) ≡ n
unfolding sample_shares
length-shares n k q x y words = length-table n (sample_share q n k (at x) (at y) (at words))

pub shares_at : (n k q : ℕ) (x y words : List ℕ) (i : ℕ) → i < n → at (sample_shares n k q x y words) i ≡ sample_share q n k (at x) (at y) (at words) i
unfolding sample_shares
shares_at n k q x y words = table_at n (sample_share q n k (at x) (at y) (at words))

-- of lists that are the same in front
pub shares_local : (n k q : ℕ) → 2 < q → (x x' y y' words words' : List ℕ) → Same n (at x) (at x') → Same n (at y) (at y') → Same (sample_words n k) (at words) (at words')
    → sample_shares n k q x y words ≡ sample_shares n k q x' y' words'
unfolding sample_shares
shares_local n k q large x x' y y' words words' e d f =
    table_same n _ _ (share_local q n large k (at x) (at x') (at y) (at y') (at words) (at words') e d f)

-- ---- the written steps, on strings that pass their checks

module _ {n k q : ℕ} {x y : List ℕ} (P : SharedPair n k q x y) (words : List ℕ) where
  -- every share is below q
  pub shares-below : EachBelow q (sample_shares n k q x y words)
  unfolding sample_shares
  shares-below = table_below q n _ (λ i l. share_lt q n (pair-large P) k (at x) (at y) (at words) i)

  -- the shares' residue is the weight of x less the weight of y, modulo q
  pub shares-residue : reduce q (total (sample_shares n k q x y words)) ≡ reduceℤ q (difference_of_weights (xor_all x) (xor_all y))
  shares-residue =
      let e = length-shares n k q x y words in
      let z : 0 < q = omega (arith, pair-large P) in
      sym (sum_list q (sample_shares n k q x y words)) ∙ rw e (sum_cong q n _ _ (shares_at n k q x y words))
      ∙ share-sum q n (pair-large P) k P.sixteen x y (at words) P.x-count P.y-count P.x-narrow P.y-narrow
      ∙ sym (reduceℤ-minus q z (weight (xor_all x)) (weight (xor_all y)))

  -- so they are shares of the two strings
  pub shares_of : {shares : List ℕ} → shares ≡ sample_shares n k q x y words → SharesOf n k q x y words shares
  shares_of e = record { steps = e; residue = ap (λ (l : List ℕ). reduce q (total l)) e ∙ shares-residue }

  -- words behind the first W do not matter
  pub shares-words : (words' : List ℕ) → take (sample_words n k) words ≡ take (sample_words n k) words' → sample_shares n k q x y words ≡ sample_shares n k q x y words'
  shares-words words' e = shares_local n k q (pair-large P) x x y y words words' (λ i l. refl) (λ i l. refl) (take_same (sample_words n k) words words' e)

-- ---- every call

module _ (n k q : ℕ) (x y words : List ℕ) (start : ℕ) (out work : List ℕ) where
  -- the words that it takes
  abbrev taken : List ℕ
  taken = take (sample_words n k) (drop start words)

  pub call-written : sampled n k q x y words start out work ≡ shares_written (sample_checks n k q x y words start (length out) (length work)) (start + sample_words n k) (sample_shares n k q x y (drop start words)) n out work
  unfolding sampled
  call-written = refl

  -- output positions past n keep their content
  pub out-kept : drop n (sampled n k q x y words start out work).buffers.out ≡ drop n out
  unfolding sampled
  out-kept = written-out-kept _ (start + sample_words n k) (sample_shares n k q x y (drop start words)) n out work n (length-shares n k q x y (drop start words))

  -- and so do work positions past n
  pub work-kept : drop n (sampled n k q x y words start out work).buffers.work ≡ drop n work
  unfolding sampled
  work-kept = written-work-kept _ (start + sample_words n k) (sample_shares n k q x y (drop start words)) n out work

  -- words before `start` and behind the last one do not matter
  pub call-words : (words' : List ℕ) → taken ≡ take (sample_words n k) (drop start words') → sampled n k q x y words start out work ≡ sampled n k q x y words' start out work
  unfolding sampled
  call-words words' e =
      written-words (pair_checks n k q x y) start (sample_words n k) q n n words words' (sample_shares n k q x y (drop start words)) (sample_shares n k q x y (drop start words')) out work e
      (λ h. let P = shared_pair n k q x y h in (words-some P, shares-words P (drop start words) (drop start words') e)) (start + sample_words n k)

  module _ (out' work' : List ℕ) where
    -- the answer depends on the lengths of output and work area, not on what they held
    pub answer-before : length out ≡ length out' → length work ≡ length work' → (sampled n k q x y words start out work).answer ≡ (sampled n k q x y words start out' work').answer
    unfolding sampled
    answer-before = written-before (sample_checks n k q x y words start) (start + sample_words n k) (sample_shares n k q x y (drop start words)) n out work out' work'

  -- ---- one that passes every check

  module _ (h : Hold (sample_checks n k q x y words start (length out) (length work))) where
    pair : SharedPair n k q x y
    pair = shared_pair n k q x y (call-checks n k q x y words start out work h)

    -- is accepted with the position W behind its start; its shares stand in front of the output, and zeros in front of the work area
    pub call-accepted : sampled n k q x y words start out work ≡ record { answer = accepted (start + sample_words n k); buffers = both (overwrite out 0 (sample_shares n k q x y (drop start words))) (overwrite work 0 (replicate n 0)) }
    unfolding sampled
    call-accepted = written-accepted _ (start + sample_words n k) (sample_shares n k q x y (drop start words)) n out work h

    pub call-shares : take n (sampled n k q x y words start out work).buffers.out ≡ sample_shares n k q x y taken
    unfolding sampled
    call-shares =
        written-shares _ (start + sample_words n k) (sample_shares n k q x y (drop start words)) n out work h n (length-shares n k q x y (drop start words))
        ∙ shares-words pair (drop start words) taken (sym (take-take (sample_words n k) (sample_words n k) (drop start words) (le_refl _)))

    pub call_zeroed : take n (sampled n k q x y words start out work).buffers.work ≡ replicate n 0
    unfolding sampled
    call_zeroed = written-zeros _ (start + sample_words n k) (sample_shares n k q x y (drop start words)) n out work h

    pub call-samples : Samples n k q x y taken start (sampled n k q x y words start out work)
    call-samples = record { end = ap (λ (o : Outcome ℕ Buffers). o.answer) call-accepted; shares = shares_of pair taken call-shares }

-- the shares do not depend on what output and work area held
pub shares-before : (n k q : ℕ) (x y words : List ℕ) (start : ℕ) (out work out' work' : List ℕ)
    → Hold (sample_checks n k q x y words start (length out) (length work)) → Hold (sample_checks n k q x y words start (length out') (length work'))
    → take n (sampled n k q x y words start out work).buffers.out ≡ take n (sampled n k q x y words start out' work').buffers.out
shares-before n k q x y words start out work out' work' h h' = call-shares n k q x y words start out work h ∙ sym (call-shares n k q x y words start out' work' h')
