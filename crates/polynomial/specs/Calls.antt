-- What holds of every call.
use Rattle.std.specs.Prelude.{◌≡◌, ℕ, ◌*◌, ◌<◌, length, take, drop, replicate}
use Rattle.std.proofs.Common.{sym, ◌∙◌}
use Rattle.std.proofs.Math.Path.{ap}
use mathlib.Core.List.{List}
use Rattle.residue.specs.Residue.{reduceℤ, EachBelow}
use Rattle.buffers.specs.Overwrite.{overwrite}
use Rattle.buffers.specs.Positions.{at, block}
use Rattle.buffers.specs.PositionLaws.{table_list}
use Rattle.buffers.specs.Rows.{length-rows, rows-below, rows_same}
use Rattle.buffers.specs.Blocks.{block-front, block-rows}
use Rattle.checks.specs.Checks.{Outcome, accepted}
use Rattle.checks.specs.Laws.{Hold}
use Rattle.masking.specs.Sharing.{xor_all, opened_residue}
use Rattle.binomial.specs.Signed.{difference_of_weights, centred, weight_difference}
use Rattle.totals.specs.Sample.{sample_shares, sample_words}
use Rattle.sampler.specs.Sampler.{Buffers, both}
use Rattle.sampler.specs.Secrecy.{SharesOf}
use Rattle.sampler.specs.Accepted.{SharedPair, shared_pair}
use Rattle.sampler.proofs.Calls.{length-shares, shares_of, shares-below}
use Rattle.sampler.proofs.Written.{written-out-kept, written-work-kept, written-accepted, written-shares, written-zeros, written-before, written-words}
use Rattle.sampler.proofs.Opened.{shares_opened, residue-centred}
use Rattle.polynomial.specs.Polynomial.{coefficient_shares, polynomial_shares, polynomial_words, strings_checks, polynomial_checks, sampled_polynomial}
use Rattle.polynomial.specs.Secrecy.{Polynomial}
use Rattle.polynomial.specs.Accepted.{SharedStrings, polynomial_some, shared_strings, call-strings}

pub length_polynomial : (n k q m : ℕ) (x y words : List ℕ) → length (polynomial_shares n k q m x y words) ≡ m * n
unfolding polynomial_shares
length_polynomial n k q m x y words = length-rows m n (λ t. at (coefficient_shares n k q x y words t))

-- coefficient t of them
module _ (n k q : ℕ) (x y words : List ℕ) (t : ℕ) where
  pub length-coefficient : length (coefficient_shares n k q x y words t) ≡ n
  unfolding coefficient_shares
  length-coefficient = length-shares n k q (block n t x) (block n t y) (block (sample_words n k) t words)

  pub polynomial_coefficient : (m : ℕ) → t < m → block n t (polynomial_shares n k q m x y words) ≡ coefficient_shares n k q x y words t
  unfolding polynomial_shares
  polynomial_coefficient m l = block-rows m n _ t l ∙ table_list n (coefficient_shares n k q x y words t) length-coefficient

-- ---- the written steps, on strings that pass their checks

module _ {n k q m : ℕ} {x y : List ℕ} (S : SharedStrings n k q m x y) (words : List ℕ) where
  pair : (t : ℕ) → t < m → SharedPair n k q (block n t x) (block n t y)
  pair t l = shared_pair n k q (block n t x) (block n t y) (S.coefficient t l)

  -- every share is below q
  pub polynomial_below : EachBelow q (polynomial_shares n k q m x y words)
  unfolding polynomial_shares coefficient_shares
  polynomial_below = rows-below q m n _ (λ t l i b. shares-below (pair t l) (block (sample_words n k) t words) i (rw (length-coefficient n k q x y words t) b))

  -- words behind the first m × W do not matter
  polynomial_words_lem : (words' : List ℕ) → take (polynomial_words n k m) words ≡ take (polynomial_words n k m) words' → polynomial_shares n k q m x y words ≡ polynomial_shares n k q m x y words'
  unfolding polynomial_shares coefficient_shares
  polynomial_words_lem words' e =
      rows_same m n _ _ (λ t l i b. ap (λ (w : List ℕ). at (sample_shares n k q (block n t x) (block n t y) w) i) (sym (block-front (sample_words n k) words t m l) ∙ ap (block (sample_words n k) t) e ∙ block-front (sample_words n k) words' t m l))

-- ---- a call that passes every check

module _ (n k q m : ℕ) (x y words out work : List ℕ) (h : Hold (polynomial_checks n k q m x y words (length out) (length work))) where
  strings : SharedStrings n k q m x y
  strings = call-strings n k q m x y words out work h

  -- is accepted with m × W; its shares stand in front of the output, and zeros in front of the work area
  pub call-accepted : sampled_polynomial n k q m x y words out work ≡ record { answer = accepted (polynomial_words n k m); buffers = both (overwrite out 0 (polynomial_shares n k q m x y words)) (overwrite work 0 (replicate n 0)) }
  unfolding sampled_polynomial
  call-accepted = written-accepted _ (polynomial_words n k m) (polynomial_shares n k q m x y words) n out work h

  pub call-shares : take (m * n) (sampled_polynomial n k q m x y words out work).buffers.out ≡ polynomial_shares n k q m x y words
  unfolding sampled_polynomial
  call-shares = written-shares _ (polynomial_words n k m) (polynomial_shares n k q m x y words) n out work h (m * n) (length_polynomial n k q m x y words)

  pub call_below : EachBelow q (take (m * n) (sampled_polynomial n k q m x y words out work).buffers.out)
  call_below = rw call-shares (polynomial_below strings words)

  pub call_zeroed : take n (sampled_polynomial n k q m x y words out work).buffers.work ≡ replicate n 0
  unfolding sampled_polynomial
  call_zeroed = written-zeros _ (polynomial_words n k m) (polynomial_shares n k q m x y words) n out work h

  -- coefficient t
  module _ (t : ℕ) (l : t < m) where
    pub call-coefficient : block n t (sampled_polynomial n k q m x y words out work).buffers.out ≡ coefficient_shares n k q x y words t
    call-coefficient = sym (block-front n _ t m l) ∙ ap (block n t) call-shares ∙ polynomial_coefficient n k q x y words t m l

    call-shares-of : SharesOf n k q (block n t x) (block n t y) (block (sample_words n k) t words) (block n t (sampled_polynomial n k q m x y words out work).buffers.out)
    unfolding coefficient_shares
    call-shares-of = shares_of (pair strings words t l) (block (sample_words n k) t words) call-coefficient

    -- opens to the residue of its own weight difference, which centred is that difference
    pub coefficient_opened : opened_residue n q (block n t (sampled_polynomial n k q m x y words out work).buffers.out) ≡ accepted (reduceℤ q (difference_of_weights (xor_all (block n t x)) (xor_all (block n t y))))
    coefficient_opened = shares_opened n k q (block n t x) (block n t y) (strings.coefficient t l) call-shares-of

    pub coefficient-centred : centred q (reduceℤ q (difference_of_weights (xor_all (block n t x)) (xor_all (block n t y)))) ≡ weight_difference k (xor_all (block n t x)) (xor_all (block n t y))
    coefficient-centred = residue-centred n k q (block n t x) (block n t y) (strings.coefficient t l)

  pub call_polynomial : Polynomial n k q m x y words (sampled_polynomial n k q m x y words out work)
  call_polynomial = record { count = ap (λ (o : Outcome ℕ Buffers). o.answer) call-accepted; coefficient = call-shares-of }

-- ---- every call, accepted or refused

module _ (n k q m : ℕ) (x y words out work : List ℕ) where
  -- output positions past m × n keep their content
  pub out-kept : drop (m * n) (sampled_polynomial n k q m x y words out work).buffers.out ≡ drop (m * n) out
  unfolding sampled_polynomial
  out-kept = written-out-kept _ (polynomial_words n k m) (polynomial_shares n k q m x y words) n out work (m * n) (length_polynomial n k q m x y words)

  -- and so do work positions past n
  pub work-kept : drop n (sampled_polynomial n k q m x y words out work).buffers.work ≡ drop n work
  unfolding sampled_polynomial
  work-kept = written-work-kept _ (polynomial_words n k m) (polynomial_shares n k q m x y words) n out work

  -- the outcome does not depend on words behind the first m × W
  pub words-behind : (words' : List ℕ) → take (polynomial_words n k m) words ≡ take (polynomial_words n k m) words' → sampled_polynomial n k q m x y words out work ≡ sampled_polynomial n k q m x y words' out work
  unfolding sampled_polynomial
  words-behind words' e =
      written-words (strings_checks n k q m x y) 0 (polynomial_words n k m) q (m * n) n words words' (polynomial_shares n k q m x y words) (polynomial_shares n k q m x y words') out work e
      (λ h. let S = shared_strings n k q m x y h in (polynomial_some S, polynomial_words_lem S words words' e)) (polynomial_words n k m)

  module _ (out' work' : List ℕ) where
    -- the answer depends on the lengths of output and work area, not on what they held
    pub answer-before : length out ≡ length out' → length work ≡ length work' → (sampled_polynomial n k q m x y words out work).answer ≡ (sampled_polynomial n k q m x y words out' work').answer
    unfolding sampled_polynomial
    answer-before = written-before (polynomial_checks n k q m x y words) (polynomial_words n k m) (polynomial_shares n k q m x y words) n out work out' work'

    -- nor do the shares
    pub shares-before : Hold (polynomial_checks n k q m x y words (length out) (length work)) → Hold (polynomial_checks n k q m x y words (length out') (length work'))
        → take (m * n) (sampled_polynomial n k q m x y words out work).buffers.out ≡ take (m * n) (sampled_polynomial n k q m x y words out' work').buffers.out
    shares-before h h' = call-shares n k q m x y words out work h ∙ sym (call-shares n k q m x y words out' work' h')
