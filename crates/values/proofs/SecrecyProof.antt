-- No n − 1 shares of a value tell one shared string from another: the refresh words of bit 0 make up for any difference but in one share.
use Rattle.std.proofs.Common.{◌∙◌, arith}
use Rattle.std.specs.Prelude.{List, [], ◌++◌, ℕ, zero, suc, ◌+◌, ◌≤◌, ◌<◌, length}
use Rattle.residue.specs.Residue.{reduce}
use Rattle.buffers.specs.Positions.{at}
use Rattle.checks.specs.Laws.{Hold, accepted-holds}
use Rattle.masking.specs.Sharing.{xor_all}
use Rattle.secrecy.specs.Secrecy.{Full, Indistinguishable, AgreeBut}
use Rattle.secrecy.proofs.Laws.{weaken, between-taken, agree-front}
use Rattle.conversion.specs.Conversion.{bits_at, bit_words, value_words, string_checks}
use Rattle.conversion.specs.Arrays.{between_drawn}
use Rattle.conversion.specs.Accepted.{shared_string, fit-holds}
use Rattle.conversion.specs.Secrecy.{Converts}
use Rattle.conversion.proofs.RowTranslation.{FirstBit, first-bit-secrecy}
use Rattle.values.specs.Values.{value_shares, converted_value}
use Rattle.values.specs.Secrecy.{ValueSecrecy}
use Rattle.values.proofs.Calls.{shares_at, call_converts}
use Rattle.values.proofs.Translation.{other_bits, share-form, others_invariant}

-- ---- the shares

shares-secrecy : (n k q ℓ : ℕ) → 2 < q → 1 ≤ k → ℓ < n → (x x' : List ℕ)
    → Indistinguishable (Full q (value_words n k)) (λ words words'. AgreeBut ℓ n (value_shares n k q x words) (value_shares n k q x' words'))
shares-secrecy n zero q ℓ large one l x x' = absurd (omega arith)
shares-secrecy n (suc m) q ℓ large one l x x' = first-bit-secrecy q n ℓ W large l fits (run x) (run x')
  where
    W : ℕ
    W = value_words n (suc m)

    fits : 0 + bit_words n ≤ W
    fits = omega arith

    run : (x : List ℕ) → FirstBit q n ℓ W large l fits (value_shares n (suc m) q x)
    run x =
        record {
          bits = bits_at (at x) 0;
          rest = other_bits q n m (at x);
          form = λ words i b. shares_at n (suc m) q x words i b ∙ share-form q n m (at x) large (at words) i b;
          stays = others_invariant q n m (at x) large ℓ W l fits;
        }

-- ---- the whole calls

-- a call on a full list and others behind it
full_converts : (n k q : ℕ) (x : List ℕ) → Hold (string_checks n k q x) → (words : List ℕ) → Full q (value_words n k) words → (behind out : List ℕ) → n ≤ length out
    → Converts n q (value_words n k) (value_shares n k q x words) (reduce q (xor_all x)) (converted_value n k q x (words ++ behind) out)
full_converts n k q x h words f behind out r =
    rw (between-taken f [] behind) at (call_converts n k q x (words ++ behind) out
    (fit-holds (string_checks n k q x) 0 (value_words n k) q (words ++ behind) n (length out) [] h (between_drawn f [] behind) r tt))

pub value-secrecy : (n k q : ℕ) → ValueSecrecy n k q
unfolding ValueSecrecy
value-secrecy n k q ℓ l x x' a a' =
    let h = accepted-holds tt tt (string_checks n k q x) a in
    let h' = accepted-holds tt tt (string_checks n k q x') a' in
    let S = shared_string n k q x h in
    weaken
    (λ v w f g same behind out out' r r'.
    let one = full_converts n k q x h v f behind out r in
    let other = full_converts n k q x' h' w g behind out' r' in
    record { one = one; other = other; agree = agree-front ℓ n _ _ one.shares other.shares same })
    (shares-secrecy n k q ℓ S.modulus S.one l x x')
