-- Sums over the printed lines; one line behind the others, and the lines that a tally gives.
use Rattle.std.specs.Prelude.{◌≡◌, List, ◌++◌, map, ℤ, pos, ◌*ℤ◌}
use Rattle.std.proofs.Math.Path.{refl, ap}
use Rattle.std.proofs.Common.{sym, ◌∙◌, append_assoc, append-nil}
use Prim.Native.Nat.{ℕ, zero, suc, ◌*◌}
use Rattle.residue.specs.Residue.{total}
use Rattle.buffers.specs.Positions.{at, table}
use Rattle.tally.specs.Tally.{Line, line_of, lines_of, sample_at, count_at, lines, sumℤ}
use Rattle.tally.specs.Counted.{tally_of}

-- ---- sums over the lines

-- of count × f sample
abbrev pub line_total : (ℤ → ℕ) → List Line → ℕ
line_total f ls = total (map (λ l. l.count * f l.sample) ls)

-- of count × sample
abbrev pub line_sum : List Line → ℤ
line_sum ls = sumℤ (map (λ l. pos l.count *ℤ l.sample) ls)

-- ---- one line behind the others

pub lines-last : (m : ℕ) (d : ℕ → ℤ) (n : ℕ → ℕ) → lines_of (suc m) d n ≡ lines_of m d n ++ line_of (d m) (n m)
unfolding lines_of
lines-last zero d n = append-nil (line_of (d 0) (n 0))
lines-last (suc m) d n = ap (λ (l : List Line). line_of (d 0) (n 0) ++ l) (lines-last m (λ e. d (suc e)) (λ e. n (suc e))) ∙ sym (append_assoc (line_of (d 0) (n 0)) (lines_of m (λ e. d (suc e)) (λ e. n (suc e))) (line_of (d (suc m)) (n (suc m))))

-- ---- the lines, by the counts that a tally holds

lines-table : (m : ℕ) (d : ℕ → ℤ) (n : ℕ → ℕ) → lines_of m d (at (table m n)) ≡ lines_of m d n
unfolding lines_of table
lines-table zero d n = refl
lines-table (suc m) d n = ap (λ (ls : List Line). line_of (d 0) (n 0) ++ ls) (lines-table m (λ e. d (suc e)) (λ e. n (suc e)))

pub lines_counts : (ks : List ℕ) (zs : List ℤ) → lines_of 33 sample_at (at (tally_of ks zs).counts) ≡ lines zs
lines_counts ks zs = lines-table 33 sample_at (count_at zs)
