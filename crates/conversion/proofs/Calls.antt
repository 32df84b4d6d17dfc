-- What holds of every call.
use Rattle.std.specs.Prelude.{◌≡◌, refl, ℕ, ◌+◌, ◌<◌, length, take, drop}
use Rattle.std.proofs.Common.{sym, ap, ◌∙◌, le_refl, one-mul, arith, take-take}
use mathlib.Core.List.{List, [], ◌∷◌, ◌++◌}
use Rattle.residue.specs.Residue.{reduce, total, EachBelow}
use Rattle.residue.proofs.Laws.{reduce-small}
use Rattle.residue.proofs.Sum.{sum_cong, sum_list}
use Rattle.buffers.specs.Positions.{at}
use Rattle.buffers.specs.PositionLaws.{length-table, table_at, table_below, table_same, table_list, take_same}
use Rattle.checks.specs.Checks.{verdict, share_count, string_length, output_checks}
use Rattle.checks.specs.Laws.{Hold, pass, same-behind}
use Rattle.masking.specs.Sharing.{xor_all}
use Rattle.masking.specs.Xor.{xor_all_lt}
use Rattle.conversion.specs.Conversion.{convert_bit, bit_words, bit_shares, sharing_checks, value_checks, bit_checks, converted}
use Rattle.conversion.proofs.Laws.{bit_words-some, convert_bit_lt, convert_bit_local, convert_bit-sum}
use Rattle.conversion.specs.Accepted.{SharedString, first_lt, shared_bit, fit-first}
use Rattle.conversion.specs.Written.{out_converts, out-words}
use Rattle.conversion.specs.Secrecy.{Converts}

pub length-bit_shares : (n q : ℕ) (bits words : List ℕ) → length (bit_shares n q bits words) ≡ n
unfolding bit_shares
length-bit_shares n q bits words = length-table n (convert_bit q n (at bits) (at words))

pub bit_shares-at : (n q : ℕ) (bits words : List ℕ) (i : ℕ) → i < n → at (bit_shares n q bits words) i ≡ convert_bit q n (at bits) (at words) i
unfolding bit_shares
bit_shares-at n q bits words = table_at n (convert_bit q n (at bits) (at words))

module _ {n q : ℕ} {bits : List ℕ} (S : SharedString n 1 q bits) (words : List ℕ) where
  -- every share is below q
  pub shares-below : EachBelow q (bit_shares n q bits words)
  unfolding bit_shares
  shares-below = table_below q n _ (convert_bit_lt q n (at bits) (at words) (first_lt S))

  -- the shares' residue is the bit
  pub shares-residue : reduce q (total (bit_shares n q bits words)) ≡ xor_all bits
  shares-residue =
      let e = length-bit_shares n q bits words in
      let b : xor_all bits < q = omega (arith, xor_all_lt 1 bits (λ i l. S.below i (omega (arith, S.count))), S.modulus) in
      sym (sum_list q (bit_shares n q bits words)) ∙ rw e (sum_cong q n _ _ (bit_shares-at n q bits words))
      ∙ convert_bit-sum q (omega (arith, S.modulus)) n (at bits) (at words) (first_lt S) S.below
      ∙ ap (λ (l : List ℕ). reduce q (xor_all l)) (table_list n bits S.count) ∙ reduce-small q b

  -- words behind the first n(n − 1) do not matter
  pub shares-words : (words' : List ℕ) → take (bit_words n) words ≡ take (bit_words n) words' → bit_shares n q bits words ≡ bit_shares n q bits words'
  unfolding bit_shares
  shares-words words' e =
      table_same n _ _ (convert_bit_local q n (at bits) (at bits) (at words) (at words') (first_lt S) (first_lt S) (λ i l. refl) (take_same (bit_words n) words words' e))

-- a bit is checked as a string of one: check 2 holds
pub bit-checks : {A : Type 0} (a : A) (n q : ℕ) (bits words : List ℕ) (start room : ℕ) → verdict (value_checks n 1 q bits words start room) a ≡ verdict (bit_checks n q bits words start room) a
bit-checks a n q bits words start room = same-behind a (share_count n ∷ []) _ _ (pass a (string_length 1) _ refl) ∙ ap (λ (c : ℕ). verdict (sharing_checks n q bits ++ output_checks start c q words n room) a) (one-mul (bit_words n))

module _ (n q : ℕ) (bits words : List ℕ) (start : ℕ) (out : List ℕ) where
  -- the words that the call takes
  abbrev taken : List ℕ
  taken = take (bit_words n) (drop start words)

  -- a call that passes every check is accepted with the position after its last word, and its shares are those of its words
  pub call_converts : Hold (bit_checks n q bits words start (length out)) → Converts n q (start + bit_words n) (bit_shares n q bits taken) (xor_all bits) (converted n q bits words start out)
  unfolding converted
  call_converts h =
      let S = shared_bit n q bits (fit-first (sharing_checks n q bits) start (bit_words n) q words n (length out) [] h) in
      out_converts (bit_checks n q bits words start (length out)) (start + bit_words n) (bit_shares n q bits (drop start words)) out h n q (xor_all bits) (bit_shares n q bits taken) (length-bit_shares n q bits (drop start words))
      (shares-words S (drop start words) taken (sym (take-take (bit_words n) (bit_words n) (drop start words) (le_refl _)))) (shares-residue S taken)

  -- words before `start` and behind the last one do not matter, whether the call is accepted or refused
  pub call-words : (words' : List ℕ) → taken ≡ take (bit_words n) (drop start words') → converted n q bits words start out ≡ converted n q bits words' start out
  unfolding converted
  call-words words' e =
      out-words (sharing_checks n q bits) start (bit_words n) q n words words' (bit_shares n q bits (drop start words)) (bit_shares n q bits (drop start words')) out e
      (λ h. let S = shared_bit n q bits h in (bit_words-some n S.two, shares-words S (drop start words) (drop start words') e)) (start + bit_words n)
