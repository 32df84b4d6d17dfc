-- The lines of the text, piece by piece, and how long they are.
use Rattle.std.specs.Prelude.{◌≡◌, refl, ℕ, suc, ◌+◌, ◌≤◌, ◌<◌, ℤ, nat_abs, length}
use Rattle.std.proofs.Common.{sym, ap, ◌∙◌, arith, length-append}
use mathlib.Core.List.{List, [], ◌∷◌, ◌++◌, map, append_assoc, append-nil}
use Rattle.residue.specs.Residue.{EachBelow}
use Rattle.text.specs.Ascii.{ascii}
use Rattle.text.specs.Text.{decimal, signed, spaced}
use Rattle.text.specs.Laws.{decimal-length, signed-length, words-length, line-append}
use Rattle.lesson_file.specs.Records.{Sample}
use Rattle.lesson.specs.Text.{parameter_fields, fields_line, sample_line, sample_lines}

module _ (n k q used : ℕ) where
  pub parameters-spaced : spaced (parameter_fields n k q used) ≡ (ascii " " ++ decimal n) ++ ((ascii " " ++ decimal k) ++ ((ascii " " ++ decimal q) ++ (ascii " " ++ decimal used)))
  unfolding spaced
  parameters-spaced = simp append-nil

  pub length-parameters : length (spaced (parameter_fields n k q used)) ≡ 4 + length (decimal n) + length (decimal k) + length (decimal q) + length (decimal used)
  length-parameters = rw parameters-spaced (simp length-append (omega arith))

module _ (number n k q used : ℕ) (value : ℤ) (shares : List ℕ) where
  pub fields_line_lem : fields_line number n k q used value shares ≡ decimal number ++ (spaced (parameter_fields n k q used) ++ ((ascii " " ++ signed value) ++ (spaced (map decimal shares) ++ ascii "\n")))
  unfolding fields_line
  fields_line_lem = line-append (decimal number) (parameter_fields n k q used) (signed value) (map decimal shares)

  pub length_fields_line : length (fields_line number n k q used value shares) ≡ 2 + length (decimal number) + length (spaced (parameter_fields n k q used)) + length (signed value) + length (spaced (map decimal shares))
  length_fields_line = rw fields_line_lem (simp length-append (omega arith))

  pub fields_line-length : number < 100000 → n < 100000 → k < 100000 → q < 100000 → used < 100000 → nat_abs value < 100000 → length shares ≤ 8 → EachBelow 100000 shares → length (fields_line number n k q used value shares) ≤ 90
  fields_line-length hm hn hk hq hu hv few each =
      let d : (m : ℕ) → m < 100000 → length (decimal m) ≤ 5 = λ m h. decimal-length m 5 h (omega arith) in
      omega (arith, length_fields_line, length-parameters n k q used, d number hm, d n hn, d k hk, d q hq, d used hu, signed-length value 5 hv (omega arith), words-length 5 shares each (omega arith))

-- lines behind lines
pub lines-append : (number : ℕ) (a b : List Sample) → sample_lines number (a ++ b) ≡ sample_lines number a ++ sample_lines (number + length a) b
unfolding sample_lines
lines-append number [] b =
    let e : number ≡ number + 0 = omega arith in
    ap (λ m. sample_lines m b) e
lines-append number (s ∷ a) b =
    let e : suc number + length a ≡ number + suc (length a) = omega arith in
    ap (λ l. sample_line number s ++ l) (lines-append (suc number) a b ∙ ap (λ m. sample_lines (suc number) a ++ sample_lines m b) e)
    ∙ sym (append_assoc (sample_line number s) (sample_lines (suc number) a) (sample_lines (number + suc (length a)) b))

pub lines_none : (number : ℕ) → sample_lines number [] ≡ []
unfolding sample_lines
lines_none number = refl

-- one line behind them
pub lines-last : (number : ℕ) (a : List Sample) (s : Sample) → sample_lines number (a ++ (s ∷ [])) ≡ sample_lines number a ++ sample_line (number + length a) s
unfolding sample_lines
lines-last number a s = lines-append number a (s ∷ []) ∙ ap (λ l. sample_lines number a ++ l) (append-nil (sample_line (number + length a) s))
