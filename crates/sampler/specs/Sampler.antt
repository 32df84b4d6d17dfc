-- The call of the masked binomial sampler (document 01, 'Questions put to a call').
use Rattle.std.specs.Prelude.{List, ◌++◌, ℕ, ◌+◌, length, drop, replicate}
use Rattle.buffers.specs.Overwrite.{overwrite}
use Rattle.checks.specs.Checks.{Check, Outcome, verdict, settled, parameter_checks, share_checks, buffer_checks}
use Rattle.totals.specs.Sample.{sample_shares, sample_words}

-- The checks of the two shared strings, 1 to 7: what passes them is the page's 'accepted pair'.
abbrev pub pair_checks : ℕ → ℕ → ℕ → List ℕ → List ℕ → List Check
pair_checks n k q x y = parameter_checks n k q ++ share_checks n k x y

abbrev pub sample_checks : ℕ → ℕ → ℕ → List ℕ → List ℕ → List ℕ → ℕ → ℕ → ℕ → List Check
sample_checks n k q x y words start room area = pair_checks n k q x y ++ buffer_checks start (sample_words n k) q words n room n area

-- output and work area
pub record Buffers : Type 0 where
  pub out : List ℕ
  pub work : List ℕ

abbrev pub both : List ℕ → List ℕ → Buffers
both out work = record { out = out; work = work }

-- A call that passes its checks answers the position after its last word, and leaves the shares in front of the output, zeros in front of the
-- work area, and the rest as it was.
abbrev pub shares_written : List Check → ℕ → List ℕ → ℕ → List ℕ → List ℕ → Outcome ℕ Buffers
shares_written checks end shares zeros out work = settled (verdict checks end) (both out work) (both (overwrite out 0 shares) (overwrite work 0 (replicate zeros 0)))

-- The call takes the words from `start` on (document 02, A.2).
unfoldable pub sampled : ℕ → ℕ → ℕ → List ℕ → List ℕ → List ℕ → ℕ → List ℕ → List ℕ → Outcome ℕ Buffers
sampled n k q x y words start out work =
    shares_written (sample_checks n k q x y words start (length out) (length work)) (start + sample_words n k) (sample_shares n k q x y (drop start words)) n out work
