-- What holds of every call.
use Rattle.std.specs.Prelude.{◌≡◌, refl, List, [], ℕ, ◌<◌, take, drop, is_none}
use Rattle.std.proofs.Math.Path.{sym, ap}
use Rattle.std.proofs.Common.{◌∙◌, le_refl, arith, le-leb, eq-eqb, take-take}
use Rattle.std.proofs.Math.Nat.{mul-le-mul}
use Rattle.std.proofs.Math.ListN.{length}
use Rattle.residue.specs.Residue.{reduce, total, EachBelow}
use Rattle.residue.proofs.Sum.{sum_cong, sum_list}
use Rattle.buffers.specs.Positions.{at, table, after, Same}
use Rattle.buffers.specs.PositionLaws.{length-table, table_at, table_below, table_same, take_same}
use Rattle.checks.specs.Checks.{accepted, verdict}
use Rattle.checks.specs.Laws.{Hold, accepts, each-below-none}
use Rattle.masking.specs.Sharing.{xor_all, open_string_checks, opened_string, open_residue_checks, opened_residue}
use Rattle.conversion.specs.Conversion.{value_words, string_checks, value_checks}
use Rattle.conversion.proofs.Laws.{bit_words-some}
use Rattle.conversion.specs.Accepted.{SharedString, shared_string, fit-first}
use Rattle.conversion.specs.Written.{out-answer, out-kept, out_converts, out-words}
use Rattle.conversion.specs.Secrecy.{Converts}
use Rattle.values.specs.Values.{value_share, value_shares, converted_value}
use Rattle.values.proofs.Laws.{share_lt, share_local, share-sum}

pub length-shares : (n k q : ℕ) (x words : List ℕ) → length (value_shares n k q x words) ≡ n
unfolding value_shares
length-shares n k q x words = length-table n (value_share q n k (at x) (at words))

pub shares_at : (n k q : ℕ) (x words : List ℕ) (i : ℕ) → i < n → at (value_shares n k q x words) i ≡ value_share q n k (at x) (at words) i
unfolding value_shares
shares_at n k q x words = table_at n (value_share q n k (at x) (at words))

-- of a list with the shares in front, and words from position 0 on
pub shares_made : (n k q : ℕ) → 2 < q → (a x words : List ℕ) → Same n (at a) (at x) → table n (value_share q n k (at a) (after 0 (at words))) ≡ value_shares n k q x words
unfolding value_shares
shares_made n k q large a x words e = table_same n _ _ (share_local q n large k (at a) (at x) (after 0 (at words)) (at words) e (λ i l. ap (at words) (omega arith)))

-- ---- the written steps, on a string that passes its checks

module _ {n k q : ℕ} {x : List ℕ} (S : SharedString n k q x) (words : List ℕ) where
  -- every share is below q
  pub shares-below : EachBelow q (value_shares n k q x words)
  unfolding value_shares
  shares-below = table_below q n _ (λ i l. share_lt q n S.modulus k (at x) (at words) i)

  -- the shares' residue is the string's number modulo q
  pub shares-residue : reduce q (total (value_shares n k q x words)) ≡ reduce q (xor_all x)
  shares-residue =
      let e = length-shares n k q x words in
      sym (sum_list q (value_shares n k q x words)) ∙ rw e (sum_cong q n _ _ (shares_at n k q x words))
      ∙ share-sum q n S.modulus k x (at words) S.count (λ i l. S.below i (omega (arith, S.count)))

  -- words behind the first k × n(n − 1) do not matter
  pub shares-words : (words' : List ℕ) → take (value_words n k) words ≡ take (value_words n k) words' → value_shares n k q x words ≡ value_shares n k q x words'
  unfolding value_shares
  shares-words words' e = table_same n _ _ (share_local q n S.modulus k (at x) (at x) (at words) (at words') (λ i l. refl) (take_same (value_words n k) words words' e))

-- ---- every call

module _ (n k q : ℕ) (x words out : List ℕ) where
  -- the words that it takes
  abbrev taken : List ℕ
  taken = take (value_words n k) words

  -- output positions past n keep their content
  pub kept : drop n (converted_value n k q x words out).buffers ≡ drop n out
  unfolding converted_value
  kept = out-kept (value_checks n k q x words 0 (length out)) (value_words n k) (value_shares n k q x words) out n (length-shares n k q x words)

  -- words behind those that it takes do not matter, whether it is accepted or refused
  pub call-words : (words' : List ℕ) → taken ≡ take (value_words n k) words' → converted_value n k q x words out ≡ converted_value n k q x words' out
  unfolding converted_value
  call-words words' e =
      out-words (string_checks n k q x) 0 (value_words n k) q n words words' (value_shares n k q x words) (value_shares n k q x words') out e
      (λ h. let S = shared_string n k q x h in (omega (arith, mul-le-mul S.one (bit_words-some n S.two)), shares-words S words words' e)) (value_words n k)

  -- the answer depends on the length of the output, not on what it held
  pub answer-before : (out' : List ℕ) → length out ≡ length out' → (converted_value n k q x words out).answer ≡ (converted_value n k q x words out').answer
  unfolding converted_value
  answer-before out' e =
      out-answer (value_checks n k q x words 0 (length out)) (value_words n k) (value_shares n k q x words) out ∙ ap (λ (room : ℕ). verdict (value_checks n k q x words 0 room) (value_words n k)) e
      ∙ sym (out-answer (value_checks n k q x words 0 (length out')) (value_words n k) (value_shares n k q x words) out')

  -- ---- one that passes every check

  module _ (h : Hold (value_checks n k q x words 0 (length out))) where
    string_checks_lem : Hold (string_checks n k q x)
    string_checks_lem = fit-first (string_checks n k q x) 0 (value_words n k) q words n (length out) [] h

    -- is accepted with the number of its words, and its shares are those of its words
    pub call_converts : Converts n q (value_words n k) (value_shares n k q x taken) (reduce q (xor_all x)) (converted_value n k q x words out)
    unfolding converted_value
    call_converts =
        let S = shared_string n k q x string_checks_lem in
        out_converts (value_checks n k q x words 0 (length out)) (value_words n k) (value_shares n k q x words) out h n q (reduce q (xor_all x)) (value_shares n k q x taken) (length-shares n k q x words)
        (shares-words S words taken (sym (take-take (value_words n k) (value_words n k) words (le_refl _)))) (shares-residue S taken)

    -- the string opens, and the shares open to its number modulo q
    pub string_opened : opened_string n k x ≡ accepted (xor_all x)
    unfolding opened_string
    string_opened =
        let g = string_checks_lem in
        accepts (xor_all x) (open_string_checks n k x) (g.0, (g.1.0, (g.1.1.1.0, (g.1.1.1.1.0, tt))))

    pub shares_opened : opened_residue n q (take n (converted_value n k q x words out).buffers) ≡ accepted (reduce q (xor_all x))
    unfolding opened_residue
    shares_opened =
        let S = shared_string n k q x string_checks_lem in
        let c = call_converts in
        let b : EachBelow q (take n (converted_value n k q x words out).buffers) = rw c.shares (shares-below S taken) in
        accepts _ (open_residue_checks n q (take n (converted_value n k q x words out).buffers)) (string_checks_lem.0, (le-leb 3 q S.modulus, (eq-eqb _ _ (ap length c.shares ∙ length-shares n k q x taken), (ap is_none (each-below-none q _ 0 b), tt))))
        ∙ ap accepted c.residue

-- the shares do not depend on what the output held
pub shares-before : (n k q : ℕ) (x words out out' : List ℕ) → Hold (value_checks n k q x words 0 (length out)) → Hold (value_checks n k q x words 0 (length out'))
    → take n (converted_value n k q x words out).buffers ≡ take n (converted_value n k q x words out').buffers
shares-before n k q x words out out' h h' = (call_converts n k q x words out h).shares ∙ sym (call_converts n k q x words out' h').shares
