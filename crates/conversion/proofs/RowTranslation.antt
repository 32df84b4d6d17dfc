-- The refresh words of a string's bit 0 move its row, and no other. So runs of which the rest stays cannot be told apart by n − 1 shares.
use Rattle.std.specs.Prelude.{◌≡◌, List}
use Rattle.std.proofs.Common.{sym, ◌∙◌}
use Rattle.std.proofs.Math.Path.{ap}
use Prim.Native.Nat.{ℕ, suc, ◌+◌, ◌*◌, ◌≤◌, ◌<◌}
use native.Mathlib.Omega.{arith}
use Rattle.residue.specs.Residue.{add}
use Rattle.buffers.specs.Positions.{at, after, Same}
use Rattle.secrecy.specs.Secrecy.{Full, Indistinguishable, AgreeBut}
use Rattle.secrecy.proofs.Laws.{weaken}
use Rattle.secrecy.proofs.Words.{Reduced}
use Rattle.secrecy.proofs.Translation.{moved, Translation, Invariant, equivariant_add, indistinguishable, Within, behind-stays}
use Rattle.conversion.specs.Conversion.{bits_at, pairs, convert_bit, bit_words, row}
use Rattle.conversion.proofs.Laws.{pairs-twice}
use Rattle.conversion.proofs.Rows.{bit_below}
use Rattle.conversion.proofs.Translation.{AllBut, bit_form, convert_bit-form, refresh_words, bit_equivariant}

module _ (q n : ℕ) where
  pub row-form : (x : ℕ → ℕ) → 2 < q → (w : ℕ → ℕ) → Same n (row q n x w 0) (bit_form q n 0 (bits_at x 0) w)
  unfolding row
  row-form x large w i l =
      let e : 0 * bit_words n ≡ 0 = omega arith in
      ap (λ (p : ℕ). convert_bit q n (bits_at x 0) (after p w) i) e ∙ convert_bit-form q n 0 (bits_at x 0) w (bit_below q n large x 0) i l

  -- moved words: those behind bit 0's stay
  module _ (w e : ℕ → ℕ) (s : Reduced q w) (h : Within (0 + pairs n) (pairs n) e) where
    pub words-behind : (p : ℕ) → bit_words n ≤ p → after p (moved q w e) ≡ after p w
    words-behind p g = behind-stays q w e s h p (omega (arith, pairs-twice n))

    pub rows_behind : (x : ℕ → ℕ) (t i : ℕ) → row q n x (moved q w e) (suc t) i ≡ row q n x w (suc t) i
    unfolding row
    rows_behind x t i = ap (λ (v : ℕ → ℕ). convert_bit q n (bits_at x (suc t)) v i) (words-behind (suc t * bit_words n) (omega arith))

  module _ (ℓ W : ℕ) (large : 2 < q) (l : ℓ < n) (fits : 0 + bit_words n ≤ W) where
    abbrev positive : 0 < q
    positive = omega arith

    abbrev pub moving : Translation q W (AllBut n ℓ)
    moving = refresh_words q positive n ℓ 0 W l fits

    -- shares that are those of bit 0, and something added that stays
    pub record FirstBit (shares : List ℕ → List ℕ) : Type 0 where
      pub bits : ℕ → ℕ
      pub rest : (ℕ → ℕ) → ℕ → ℕ
      pub form : (words : List ℕ) → Same n (at (shares words)) (λ i. add q (bit_form q n 0 bits (at words) i) (rest (at words) i))
      pub stays : Invariant moving rest

    pub first-bit-secrecy : {shares shares' : List ℕ → List ℕ} → FirstBit shares → FirstBit shares' → Indistinguishable (Full q W) (λ words words'. AgreeBut ℓ n (shares words) (shares' words'))
    first-bit-secrecy F G =
        weaken (λ v w f g same i b d. F.form v i b ∙ same i (b, d) ∙ sym (G.form w i b))
        (indistinguishable moving positive (λ w i. add q (bit_form q n 0 F.bits w i) (F.rest w i)) (λ w i. add q (bit_form q n 0 G.bits w i) (G.rest w i))
        (equivariant_add moving (bit_equivariant q positive n ℓ 0 W l fits F.bits) F.stays)
        (equivariant_add moving (bit_equivariant q positive n ℓ 0 W l fits G.bits) G.stays))
