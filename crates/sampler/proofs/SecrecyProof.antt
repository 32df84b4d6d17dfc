-- Demand 3, proved: the refresh words of the first x bit make up for any difference between two samples but in one share.
use Rattle.std.proofs.Common.{◌∙◌, arith}
use Rattle.std.specs.Prelude.{List, ℕ, zero, suc, ◌+◌, ◌≤◌, ◌<◌, length}
use Rattle.buffers.specs.Positions.{at}
use Rattle.checks.specs.Laws.{Hold, accepted-holds}
use Rattle.secrecy.specs.Secrecy.{Full, between, Indistinguishable, AgreeBut}
use Rattle.secrecy.proofs.Laws.{weaken, between-taken, agree-front}
use Rattle.conversion.specs.Conversion.{bits_at, bit_words}
use Rattle.conversion.specs.Arrays.{between_drawn}
use Rattle.conversion.proofs.RowTranslation.{FirstBit, first-bit-secrecy}
use Rattle.totals.specs.Sample.{sample_shares, sample_words}
use Rattle.sampler.specs.Sampler.{pair_checks, sampled}
use Rattle.sampler.specs.Secrecy.{Samples, Room, Secrecy}
use Rattle.sampler.specs.Accepted.{pair-large, shared_pair, fit-holds}
use Rattle.sampler.proofs.Calls.{shares_at, call-samples}
use Rattle.sampler.specs.Translation.{other_bits, share-form, others_invariant}

-- ---- the shares

pub shares-secrecy : (n k q ℓ : ℕ) → 2 < q → 1 ≤ k → ℓ < n → (x y x' y' : List ℕ)
    → Indistinguishable (Full q (sample_words n k)) (λ words words'. AgreeBut ℓ n (sample_shares n k q x y words) (sample_shares n k q x' y' words'))
shares-secrecy n zero q ℓ large one l x y x' y' = absurd (omega arith)
shares-secrecy n (suc m) q ℓ large one l x y x' y' = first-bit-secrecy q n ℓ W large l fits (run x y) (run x' y')
  where
    W : ℕ
    W = sample_words n (suc m)

    fits : 0 + bit_words n ≤ W
    fits = omega arith

    run : (x y : List ℕ) → FirstBit q n ℓ W large l fits (sample_shares n (suc m) q x y)
    run x y =
        record {
          bits = bits_at (at x) 0;
          rest = other_bits q n m (at x) (at y);
          form = λ words i b. shares_at n (suc m) q x y words i b ∙ share-form q n m (at x) (at y) large (at words) i b;
          stays = others_invariant q n m (at x) (at y) large ℓ W l fits;
        }

-- ---- the whole calls

-- a call on a full list between others
module _ (n k q : ℕ) (x y : List ℕ) (h : Hold (pair_checks n k q x y)) (words : List ℕ) (f : Full q (sample_words n k) words) (before behind out work : List ℕ) (r : Room n n out work) where
  between-samples : Samples n k q x y words (length before) (sampled n k q x y (between before words behind) (length before) out work)
  between-samples =
      rw (between-taken f before behind) at (call-samples n k q x y (between before words behind) (length before) out work
      (fit-holds (pair_checks n k q x y) (length before) (sample_words n k) q (between before words behind) n n out work h (between_drawn f before behind) r))

pub secrecy : (n k q : ℕ) → Secrecy n k q
unfolding Secrecy
secrecy n k q ℓ l x y x' y' a a' =
    let h = accepted-holds tt tt (pair_checks n k q x y) a in
    let h' = accepted-holds tt tt (pair_checks n k q x' y') a' in
    let P = shared_pair n k q x y h in
    weaken
    (λ v w f g same before behind out work out' work' r r'.
    let one = between-samples n k q x y h v f before behind out work r in
    let other = between-samples n k q x' y' h' w g before behind out' work' r' in
    record { one = one; other = other; agree = agree-front ℓ n _ _ one.shares.steps other.shares.steps same })
    (shares-secrecy n k q ℓ (pair-large P) P.one l x y x' y')
