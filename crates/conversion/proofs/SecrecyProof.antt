-- No n − 1 shares of a converted bit tell one shared bit from another: the words of step 3 make up for any difference but in one share.
use Rattle.std.proofs.Common.{sym, ap, ◌∙◌, arith}
use Rattle.std.specs.Prelude.{List, [], ℕ, ◌+◌, ◌≤◌, ◌<◌, length}
use Rattle.buffers.specs.Positions.{at, Same}
use Rattle.buffers.specs.PositionLaws.{after_zero}
use Rattle.checks.specs.Laws.{Hold, accepted-holds}
use Rattle.masking.specs.Sharing.{xor_all}
use Rattle.secrecy.specs.Secrecy.{Full, between, Indistinguishable, AgreeBut}
use Rattle.secrecy.proofs.Laws.{weaken, between-taken, agree-front}
use Rattle.secrecy.proofs.Translation.{indistinguishable}
use Rattle.conversion.specs.Conversion.{convert_bit, bit_words, bit_shares, sharing_checks, converted}
use Rattle.conversion.specs.Arrays.{between_drawn}
use Rattle.conversion.specs.Accepted.{SharedString, first_lt, shared_bit, fit-holds}
use Rattle.conversion.proofs.Calls.{bit_shares-at, call_converts}
use Rattle.conversion.proofs.Translation.{bit_form, convert_bit-form, refresh_words, bit_equivariant}
use Rattle.conversion.specs.Secrecy.{Converts, BitSecrecy}

-- ---- the shares

shares-form : {n q : ℕ} {bits : List ℕ} → SharedString n 1 q bits → (words : List ℕ) → Same n (at (bit_shares n q bits words)) (bit_form q n 0 (at bits) (at words))
shares-form {n} {q} {bits} S words i l =
    bit_shares-at n q bits words i l ∙ ap (λ (w : ℕ → ℕ). convert_bit q n (at bits) w i) (sym (after_zero (at words)))
    ∙ convert_bit-form q n 0 (at bits) (at words) (first_lt S) i l

shares-secrecy : {n q : ℕ} {bits bits' : List ℕ} → SharedString n 1 q bits → SharedString n 1 q bits' → (ℓ : ℕ) → ℓ < n
    → Indistinguishable (Full q (bit_words n)) (λ words words'. AgreeBut ℓ n (bit_shares n q bits words) (bit_shares n q bits' words'))
shares-secrecy {n} {q} {bits} {bits'} S S' ℓ l =
    let pos : 0 < q = omega (arith, S.modulus) in
    let fits : 0 + bit_words n ≤ bit_words n = omega arith in
    weaken (λ v w f g same i m d. shares-form S v i m ∙ same i (m, d) ∙ sym (shares-form S' w i m))
    (indistinguishable (refresh_words q pos n ℓ 0 (bit_words n) l fits) pos (bit_form q n 0 (at bits)) (bit_form q n 0 (at bits'))
    (bit_equivariant q pos n ℓ 0 (bit_words n) l fits (at bits))
    (bit_equivariant q pos n ℓ 0 (bit_words n) l fits (at bits')))

-- ---- the whole calls

-- a call on a full list between others
module _ (n q : ℕ) (bits : List ℕ) (h : Hold (sharing_checks n q bits)) (words : List ℕ) (f : Full q (bit_words n) words) (before behind out : List ℕ) (r : n ≤ length out) where
  between_converts : Converts n q (length before + bit_words n) (bit_shares n q bits words) (xor_all bits) (converted n q bits (between before words behind) (length before) out)
  between_converts =
      rw (between-taken f before behind) at (call_converts n q bits (between before words behind) (length before) out
      (fit-holds (sharing_checks n q bits) (length before) (bit_words n) q (between before words behind) n (length out) [] h (between_drawn f before behind) r tt))

pub bit-secrecy : (n q : ℕ) → BitSecrecy n q
unfolding BitSecrecy
bit-secrecy n q ℓ l bits bits' a a' =
    let h = accepted-holds tt tt (sharing_checks n q bits) a in
    let h' = accepted-holds tt tt (sharing_checks n q bits') a' in
    weaken
    (λ v w f g same before behind out out' r r'.
    let one = between_converts n q bits h v f before behind out r in
    let other = between_converts n q bits' h' w g before behind out' r' in
    record { one = one; other = other; agree = agree-front ℓ n _ _ one.shares other.shares same })
    (shares-secrecy (shared_bit n q bits h) (shared_bit n q bits' h') ℓ l)
