-- The exam's reference values (documents 01 and 02): those with a star form one list, and one theorem shows by computation that all of them
-- follow from the definitions that the contracts cite.
use Rattle.std.specs.Prelude.{◌≡◌, refl, List, [], ◌∷◌, ◌++◌, map, ℕ, ℤ, pos, neg_ℤ, replicate}
use Rattle.residue.specs.Residue.{total, reduce, add, neg, sum}
use Rattle.buffers.specs.Overwrite.{overwrite}
use Rattle.buffers.specs.Positions.{table}
use Rattle.checks.specs.Search.{first_from}
use Rattle.checks.specs.Checks.{Verdict, accepted, refused, verdict, Outcome}
use Rattle.masking.specs.Sharing.{xor_all, mask_shares, masked, opened_residue}
use Rattle.binomial.specs.Signed.{centred}
use Rattle.conversion.specs.Conversion.{pairs, extend, less_twice, xor_bit, xor_share, convert, transfer, refresh_share, refresh_from, convert_bit, row}
use Rattle.totals.specs.Sample.{string_share, sample_share, sample_shares}
use Rattle.sampler.specs.Sampler.{Buffers, both, sampled}

-- a call, with what its buffers hold before it
pub data Call : Type 0 where
  sample : (n k q : ℕ) (x y words out work : List ℕ) → Call
  mask : (n k value : ℕ) (masks out : List ℕ) → Call
  open_residue : (n q : ℕ) (shares : List ℕ) → Call
  centre : (q residue : ℕ) → Call

-- what it answers, and what its buffers hold after it
pub data Result : Type 0 where
  buffers : Outcome ℕ Buffers → Result
  output : Outcome ℕ (List ℕ) → Result
  residue : Verdict ℕ → Result
  integer : Verdict ℤ → Result

-- by the definitions
abbrev pub result_of : Call → Result
result_of (sample n k q x y words out work) = buffers (sampled n k q x y words 0 out work)
result_of (mask n k value masks out) = output (masked n k value masks out)
result_of (open_residue n q shares) = residue (opened_residue n q shares)
result_of (centre q r) = integer (centred q r)

-- a call, and what the papers give for it, with what follows for the rest of the outcome
pub record Value : Type 0 where
  pub call : Call
  pub given : Result

-- ---- the notation of the list

infix 70 ◌gives◌
abbrev pub ◌gives◌ : Call → Result → Value
call gives result = record { call = call; given = result }

abbrev pub leaving : Verdict ℕ → List ℕ → List ℕ → Result
leaving answer out work = buffers (record { answer = answer; buffers = both out work })

abbrev pub writing : Verdict ℕ → List ℕ → Result
writing answer out = output (record { answer = answer; buffers = out })

-- what stands in a buffer before a call, n positions of it
abbrev pub old : ℕ → List ℕ
old n = replicate n 65535

abbrev pub zeros : ℕ → List ℕ
zeros n = replicate n 0

abbrev pub minus : ℕ → ℤ
minus n = neg_ℤ (pos n)

-- ---- the list. Each buffer has one position more than the call needs. Behind a sample stand the residue and the centred value of its shares.

unfoldable pub starred : List Value
starred =
    -- *a: n 2, k 1, q 17, x (1, 0), y (1, 1), words 5 3 10 16: shares 7, 11
    sample 2 1 17 (1 ∷ 0 ∷ []) (1 ∷ 1 ∷ []) (5 ∷ 3 ∷ 10 ∷ 16 ∷ []) (old 3) (old 3) gives leaving (accepted 4) (7 ∷ 11 ∷ old 1) (zeros 2 ++ old 1)
    ∷ open_residue 2 17 (7 ∷ 11 ∷ []) gives residue (accepted 1)
    ∷ centre 17 1 gives integer (accepted (pos 1))
    -- *b: as a, x (0, 0), y (0, 1), words 5 3 10 14: shares 7, 9, centred −1
    ∷ sample 2 1 17 (0 ∷ 0 ∷ []) (0 ∷ 1 ∷ []) (5 ∷ 3 ∷ 10 ∷ 14 ∷ []) (old 3) (old 3) gives leaving (accepted 4) (7 ∷ 9 ∷ old 1) (zeros 2 ++ old 1)
    ∷ open_residue 2 17 (7 ∷ 9 ∷ []) gives residue (accepted 16)
    ∷ centre 17 16 gives integer (accepted (minus 1))
    -- *c: n 2, k 1, q 3, x (1, 1), y (1, 0), four zero words: shares 2, 0, centred −1
    ∷ sample 2 1 3 (1 ∷ 1 ∷ []) (1 ∷ 0 ∷ []) (zeros 4) (old 3) (old 3) gives leaving (accepted 4) (2 ∷ 0 ∷ old 1) (zeros 2 ++ old 1)
    ∷ open_residue 2 3 (2 ∷ 0 ∷ []) gives residue (accepted 2)
    ∷ centre 3 2 gives integer (accepted (minus 1))
    -- *d: n 3, k 1, q 17, x (1, 0, 1), y all 0, words 1 2 3 4 5 6 and six zeros: shares 12, 4, 1
    ∷ sample 3 1 17 (1 ∷ 0 ∷ 1 ∷ []) (zeros 3) (1 ∷ 2 ∷ 3 ∷ 4 ∷ 5 ∷ 6 ∷ zeros 6) (old 4) (old 4) gives leaving (accepted 12) (12 ∷ 4 ∷ 1 ∷ old 1) (zeros 3 ++ old 1)
    ∷ open_residue 3 17 (12 ∷ 4 ∷ 1 ∷ []) gives residue (accepted 0)
    ∷ centre 17 0 gives integer (accepted (pos 0))
    -- *e: masking 10 with n 3, k 4, masks 3, 12: shares 3, 12, 5
    ∷ mask 3 4 10 (3 ∷ 12 ∷ []) (old 4) gives writing (accepted 3) (3 ∷ 12 ∷ 5 ∷ old 1)
    -- *f: q 33: residue 16 is 16, residue 17 is −16
    ∷ centre 33 16 gives integer (accepted (pos 16))
    ∷ centre 33 17 gives integer (accepted (minus 16))
    -- *g: q 8: 3 is 3, 4 is 4 (document 02, A.9)
    ∷ centre 8 3 gives integer (accepted (pos 3))
    ∷ centre 8 4 gives integer (accepted (pos 4))
    -- *h: k 16 with q 32 is refused with 3; q 33 passes
    ∷ sample 2 16 32 (zeros 2) (zeros 2) (zeros 64) (old 3) (old 3) gives leaving (refused 3 0) (old 3) (old 3)
    ∷ sample 2 16 33 (zeros 2) (zeros 2) (zeros 64) (old 3) (old 3) gives leaving (accepted 64) (zeros 2 ++ old 1) (zeros 2 ++ old 1)
    -- *i: as a, third word 17: refused with 9, place 2
    ∷ sample 2 1 17 (1 ∷ 0 ∷ []) (1 ∷ 1 ∷ []) (5 ∷ 3 ∷ 17 ∷ 16 ∷ []) (old 3) (old 3) gives leaving (refused 9 2) (old 3) (old 3)
    ∷ []

pub starred-hold : map (λ (v : Value). result_of v.call) starred ≡ map (λ (v : Value). v.given) starred
unfolding starred sampled sample_shares sample_share string_share row convert_bit refresh_from refresh_share transfer convert xor_share xor_bit less_twice extend pairs sum add neg masked mask_shares xor_all opened_residue reduce total centred verdict first_from overwrite table
starred-hold = refl
