-- The refresh words of a bit as a translation: they can bring every share but one to any wanted value, and all else stays.
use Rattle.std.specs.Prelude.{refl, ◌≢◌, ℕ, ◌+◌, ◌≤◌, ◌<◌}
use Rattle.std.proofs.Common.{◌∙◌, arith}
use Rattle.std.proofs.Math.Path.{fun_ext}
use Rattle.residue.specs.Residue.{add}
use Rattle.residue.proofs.Laws.{reduce-add, add_assoc}
use Rattle.buffers.specs.Positions.{after, join, Same}
use Rattle.buffers.specs.PositionLaws.{after-after, join_from}
use Rattle.secrecy.proofs.Translation.{moved, Translation, Equivariant, Within, before-stays, within-opposite, within-join}
use Rattle.conversion.specs.Conversion.{pairs, convert, convert_bit, bit_words}
use Rattle.conversion.proofs.ZeroSharing.{zero_sharing, zero_sharing-add, solve, solve-ends, zero_sharing-solve}
use Rattle.conversion.proofs.Laws.{pairs-twice, convert_local, convert_bit_adds}

-- every share but ℓ
abbrev pub AllBut : ℕ → ℕ → ℕ → Type 0
AllBut n ℓ i = (i < n) × (i ≢ ℓ)

module _ (q : ℕ) where
  -- steps 1, 2 and 3 on the words from `start` on: what convert_bit gives its n shares
  unfoldable pub bit_form : ℕ → ℕ → (ℕ → ℕ) → (ℕ → ℕ) → ℕ → ℕ
  bit_form n start b w i = add q (convert q n b (after start w) i) (zero_sharing q n (after (start + pairs n) w) i)

  pub convert_bit-form : (n start : ℕ) (b w : ℕ → ℕ) → b 0 < q → Same n (convert_bit q n b (after start w)) (bit_form n start b w)
  unfolding bit_form
  convert_bit-form n start b w h i l = convert_bit_adds q n b (after start w) h i l ∙ rw (after-after start (pairs n) w)

  module _ (pos : 0 < q) (n ℓ start W : ℕ) (l : ℓ < n) (fits : start + bit_words n ≤ W) where
    -- the words of step 3 of the bit at `start`, in a list of W words
    abbrev pub refresh_words : Translation q W (AllBut n ℓ)
    refresh_words =
        record {
          Move = Within (start + pairs n) (pairs n);
          ends = λ e m j h. m.behind j (omega (arith, pairs-twice n));
          back = within-opposite q pos;
          effect = λ e. zero_sharing q n (after (start + pairs n) e);
          solution = λ d. join (start + pairs n) (λ j. 0) (solve q n ℓ d);
          solution_moves = λ d. within-join (start + pairs n) (pairs n) (solve q n ℓ d) (solve-ends q n ℓ d);
          solves = λ d i s. rw (fun_ext (join_from (start + pairs n) (λ j. 0) (solve q n ℓ d))) (zero_sharing-solve q pos n ℓ d i l s.0 s.1);
        }

    pub bit_equivariant : (b : ℕ → ℕ) → Equivariant refresh_words (bit_form n start b)
    unfolding bit_form
    bit_equivariant b =
        record {
          reduced = λ w i. reduce-add q (convert q n b (after start w) i) (zero_sharing q n (after (start + pairs n) w) i);
          shift = λ w e s m i. rw (convert_local q n b b (after start (moved q w e)) (after start w) (λ j h. refl) (λ j h. before-stays q w e s m (start + j) (omega arith)), zero_sharing-add q pos n (after (start + pairs n) w) (after (start + pairs n) e) i, add_assoc);
        }
