-- A string of one bit: the call's outcome is that of the one-bit call with start 0, for every input.
use Rattle.std.specs.Prelude.{◌≡◌, ℕ, ◌+◌, length, drop}
use Rattle.std.proofs.Math.Path.{ap}
use Rattle.std.proofs.Common.{◌∙◌}
use mathlib.Core.List.{List, []}
use native.Mathlib.Omega.{arith}
use Rattle.residue.specs.Residue.{add, sum}
use Rattle.residue.proofs.Laws.{reduce-small, reduce-reduce, add_zero, one-mul}
use Rattle.buffers.specs.Overwrite.{overwrite}
use Rattle.buffers.specs.Positions.{at, Same}
use Rattle.buffers.specs.PositionLaws.{table_same}
use Rattle.checks.specs.Checks.{Verdict, verdict, settled}
use Rattle.checks.specs.Laws.{accepted-holds, settled_same}
use Rattle.checks.specs.Width.{bit-lowest}
use Rattle.conversion.specs.Conversion.{bits_at, bit_words, convert_bit, row, bit_shares, string_checks, value_words, value_checks, bit_checks, converted}
use Rattle.conversion.proofs.Laws.{convert_bit_local}
use Rattle.conversion.proofs.Rows.{bit_below, row_lt}
use Rattle.conversion.specs.Accepted.{SharedString, shared_string, first_lt, fit-first}
use Rattle.conversion.proofs.Calls.{bit-checks}
use Rattle.values.specs.Values.{binary_sum, value_share, value_shares, converted_value}

module _ (n q : ℕ) (bits words : List ℕ) where
  -- the shares are those of the bit
  shares-bit : SharedString n 1 q bits → value_shares n 1 q bits words ≡ bit_shares n q bits (drop 0 words)
  unfolding value_shares bit_shares value_share binary_sum
  shares-bit S = table_same n _ _ (λ i l. unfold sum in (ap (λ (a : ℕ). add q a 0) (one-mul q (row q n (at bits) (at words) 0 i)) ∙ add_zero q _ ∙ reduce-reduce q _ ∙ reduce-small q (row_lt q n S.modulus (at bits) (at words) 0 i l)) ∙ row-bit i l)
    where
      row-bit : Same n (row q n (at bits) (at words) 0) (convert_bit q n (at bits) (at words))
      row-bit = unfold row in convert_bit_local q n (bits_at (at bits) 0) (at bits) _ (at words) (bit_below q n S.modulus (at bits) 0) (first_lt S) (λ j m. bit-lowest (at bits j) ∙ omega (arith, S.below j m)) (λ j m. ap (at words) (omega arith))

  pub one_bit : (out : List ℕ) → converted_value n 1 q bits words out ≡ converted n q bits words 0 out
  unfolding converted_value converted
  one_bit out =
      settled_same (verdict (value_checks n 1 q bits words 0 (length out)) (value_words n 1)) out _ (overwrite out 0 (bit_shares n q bits (drop 0 words)))
      (λ a e. ap (overwrite out 0) (shares-bit (shared_string n 1 q bits (fit-first (string_checks n 1 q bits) 0 (value_words n 1) q words n (length out) [] (accepted-holds (value_words n 1) a _ e)))))
      ∙ ap (λ (v : Verdict ℕ). settled v out (overwrite out 0 (bit_shares n q bits (drop 0 words)))) (bit-checks (value_words n 1) n q bits words 0 (length out) ∙ ap (verdict (bit_checks n q bits words 0 (length out))) end)
    where
      end : value_words n 1 ≡ 0 + bit_words n
      end = omega arith
