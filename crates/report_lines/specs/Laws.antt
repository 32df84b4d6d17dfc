-- The pieces of a line, and the lines, one behind the other.
use Rattle.std.specs.Prelude.{◌≡◌, Bool, false, ℕ, zero, suc, ◌+◌, ◌-◌, ◌^◌, ◌≤◌, ◌<◌, ℤ, length}
use Rattle.std.proofs.Math.Path.{refl, sym, ap}
use Rattle.std.proofs.Common.{◌∙◌, add-zero, add-one, arith, eq-eqb, ne_eqb, length-append}
use mathlib.Core.List.{List, [], ◌∷◌, ◌++◌, append-nil, append_assoc}
use Rattle.pairs.specs.Pairs.{pairs}
use Rattle.tally.specs.Tally.{Line, line_of, lines_of, sample_at}
use Rattle.tally.specs.LineLaws.{lines-last}
use Rattle.text.specs.Ascii.{ascii}
use Rattle.text.specs.Text.{decimal, signed, spaced, line}
use Rattle.text.specs.Laws.{line-three, length-line-three}
use Rattle.report_lines.specs.Lines.{exact_fields, line_text, lines_text, last_line}

-- ---- the pieces of a line

module _ (ways power : ℕ) where
  pub exact_pieces : spaced (exact_fields false ways power) ≡ (ascii " " ++ decimal ways) ++ (ascii " " ++ decimal power)
  unfolding spaced
  exact_pieces = simp append-nil

  pub length_exact : length (spaced (exact_fields false ways power)) ≡ 2 + length (decimal ways) + length (decimal power)
  length_exact = rw exact_pieces (simp length-append (omega arith))

module _ (sum : ℤ) (squares total : ℕ) where
  pub last_pieces : last_line sum squares total ≡ signed sum ++ ((ascii " " ++ decimal squares) ++ ((ascii " " ++ decimal total) ++ ascii "\n"))
  unfolding last_line
  last_pieces = line-three (signed sum) (decimal squares) (decimal total)

  pub length_last : length (last_line sum squares total) ≡ 3 + length (signed sum) + length (decimal squares) + length (decimal total)
  unfolding last_line
  length_last = length-line-three (signed sum) (decimal squares) (decimal total)

-- ---- one line behind the others

module _ (mixed : Bool) (k : ℕ) where
  text-append : (a b : List Line) → lines_text mixed k (a ++ b) ≡ lines_text mixed k a ++ lines_text mixed k b
  unfolding lines_text
  text-append [] b = refl
  text-append (l ∷ a) b = ap (λ (t : List ℕ). line_text mixed k l ++ t) (text-append a b) ∙ sym (append_assoc (line_text mixed k l) (lines_text mixed k a) (lines_text mixed k b))

  pub line_absent : (d : ℤ) (times : ℕ) → times ≡ 0 → lines_text mixed k (line_of d times) ≡ []
  unfolding lines_text
  line_absent d times e = rw (eq-eqb times 0 e)

  pub line_present : (d : ℤ) (times : ℕ) → (times ≡ 0 → ⊥) → lines_text mixed k (line_of d times) ≡ line (signed d) (decimal times ∷ exact_fields mixed (pairs k d) (4 ^ k))
  unfolding lines_text line_text
  line_present d times e = rw (ne_eqb times 0 e) (append-nil (line (signed d) (decimal times ∷ exact_fields mixed (pairs k d) (4 ^ k))))

  -- of the first m samples
  module _ (n : ℕ → ℕ) where
    abbrev pub first_lines : ℕ → List ℕ
    first_lines m = lines_text mixed k (lines_of m sample_at n)

    pub lines_none : first_lines 0 ≡ []
    unfolding lines_text lines_of
    lines_none = refl

    pub lines_next : (e : ℕ) → first_lines (e + 1) ≡ first_lines e ++ lines_text mixed k (line_of (sample_at e) (n e))
    lines_next e = rw (add-one e, lines-last e sample_at n) (text-append (lines_of e sample_at n) (line_of (sample_at e) (n e)))

    -- they are no longer than all
    lines-within : (more e : ℕ) → length (first_lines e) ≤ length (first_lines (e + more))
    lines-within zero e = rw (add-zero e) (omega arith)
    lines-within (suc more) e =
        let f : e + suc more ≡ e + more + 1 = omega arith in
        rw (f, lines_next (e + more), length-append) (omega (arith, lines-within more e))

    -- so that there is room for the next
    pub line-room : (e : ℕ) → e < 33 → length (first_lines e) + length (lines_text mixed k (line_of (sample_at e) (n e))) ≤ length (first_lines 33)
    line-room e h =
        let f : e + 1 + (32 - e) ≡ 33 = omega arith in
        let l = rw f at (lines-within (32 - e) (e + 1)) in
        omega (arith, l, ap length (lines_next e) ∙ length-append (first_lines e) (lines_text mixed k (line_of (sample_at e) (n e))))
