-- Masking a value and opening the shares gives the value.
use Rattle.std.specs.Prelude.{◌≡◌, ℕ, ◌+◌, ◌-◌, ◌^◌, ◌<◌}
use Rattle.std.proofs.Math.Path.{sym, ap}
use Rattle.std.proofs.Common.{◌∙◌, arith, ltb-true, eqb-true, eq-eqb}
use mathlib.Core.List.{List, [], ◌∷◌, ◌++◌}
use Rattle.std.proofs.Math.Decide.{dec_lt}
use Rattle.std.specs.Int.Bits.{bit_xor}
use Rattle.std.proofs.lemmas.Nat.{xor_lt}
use Rattle.std.proofs.Math.ListN.{length, get_or, take, length-append, get_or-append}
use Rattle.std.proofs.lemmas.List.{get_or_at}
use Rattle.residue.specs.Residue.{EachBelow}
use Rattle.buffers.specs.Overwrite.{overwrite}
use Rattle.buffers.specs.Laws.{take-front}
use Rattle.checks.specs.Checks.{Verdict, accepted, verdict, settled}
use Rattle.std.specs.Prelude.{is_none}
use Rattle.checks.specs.Laws.{Hold, accepts, accepted-holds, settled-answer, none-each-below, each-below-none, within_true}
use Rattle.masking.specs.Sharing.{xor_all, mask_shares, mask_checks, masked, open_string_checks, opened_string}
use Rattle.masking.specs.Xor.{xor_all-append, xor_all-one, xor_all_lt, xor_twice}

module _ (v : ℕ) (masks : List ℕ) where
  -- the shares' string is the value
  pub xor_all-mask_shares : xor_all (mask_shares v masks) ≡ v
  unfolding mask_shares
  xor_all-mask_shares = rw (xor_all-append, xor_all-one) (xor_twice v (xor_all masks))

  pub length-mask_shares : length (mask_shares v masks) ≡ length masks + 1
  unfolding mask_shares
  length-mask_shares = length-append masks (bit_xor v (xor_all masks) ∷ [])

  -- of a value and masks of k bits, the shares have k bits
  pub mask_shares-narrow : (k : ℕ) → v < 2 ^ k → EachBelow (2 ^ k) masks → EachBelow (2 ^ k) (mask_shares v masks)
  unfolding mask_shares
  mask_shares-narrow k h m i l = go (dec_lt i (length masks))
    where
      go : Dec (i < length masks) → get_or (masks ++ (bit_xor v (xor_all masks) ∷ [])) i 0 < 2 ^ k
      go (yes s) = rw (get_or-append masks (bit_xor v (xor_all masks) ∷ []) 0 i s) (m i s)
      go (no s) =
          let e : length masks ≡ i = omega (arith, length-append masks (bit_xor v (xor_all masks) ∷ [])) in
          rw (get_or_at masks (bit_xor v (xor_all masks)) [] 0 i e) (xor_lt k v (xor_all masks) h (xor_all_lt k masks m))

module _ (n k v : ℕ) (masks out : List ℕ) (h : (masked n k v masks out).answer ≡ accepted n) where
  accepted-call : verdict (mask_checks n k v masks (length out)) n ≡ accepted n
  unfolding masked
  accepted-call = sym (settled-answer (verdict (mask_checks n k v masks (length out)) n) out (overwrite out 0 (mask_shares v masks))) ∙ h

  hold : Hold (mask_checks n k v masks (length out))
  hold = accepted-holds n n (mask_checks n k v masks (length out)) accepted-call

  count : length (mask_shares v masks) ≡ n
  count =
      let e : length masks ≡ n - 1 = eqb-true _ _ hold.1.1.1.0 in
      omega (arith, length-mask_shares v masks, within_true 2 8 n hold.0)

  shares : take n (masked n k v masks out).buffers ≡ mask_shares v masks
  unfolding masked
  shares =
      ap (λ (r : Verdict ℕ). take n (settled r out (overwrite out 0 (mask_shares v masks))).buffers) accepted-call
      ∙ take-front out (mask_shares v masks) n count

  narrow-shares : EachBelow (2 ^ k) (mask_shares v masks)
  narrow-shares = mask_shares-narrow v masks k (ltb-true v (2 ^ k) hold.1.1.0) (none-each-below (2 ^ k) masks 0 hold.1.1.1.1.0)

  -- for every accepted call: opening the first n positions of the output
  pub mask_open : opened_string n k (take n (masked n k v masks out).buffers) ≡ accepted v
  unfolding opened_string
  mask_open =
      rw shares (accepts (xor_all (mask_shares v masks)) (open_string_checks n k (mask_shares v masks)) (
        hold.0,
        (hold.1.0, (eq-eqb (length (mask_shares v masks)) n count, (ap is_none (each-below-none (2 ^ k) (mask_shares v masks) 0 narrow-shares), tt))),
      ) ∙ ap accepted (xor_all-mask_shares v masks))
