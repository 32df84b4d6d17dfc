-- The printed lines add up to the samples.
use Rattle.std.specs.Prelude.{◌≡◌, Bool, List, [], ◌∷◌, ◌++◌, map, eqb, ℤ, pos, ◌+ℤ◌, ◌-ℤ◌, ◌*ℤ◌, length}
use Rattle.std.proofs.Math.Path.{refl, ap}
use Rattle.std.proofs.Common.{sym, ap₂, ◌∙◌}
use Prim.Native.Nat.{ℕ, zero, suc, ◌+◌, ◌*◌}
use Rattle.std.proofs.Math.Nat as N
use native.Mathlib.Omega.{arith}
use Rattle.std.proofs.Math.Dec.{eqb-suc-zero}
use Rattle.std.proofs.Math.IntN.{+ℤ_idl, zero-*ℤ}
use Rattle.residue.specs.Residue.{total}
use Rattle.residue.proofs.Integers.{minus_plus, minus_times}
use Rattle.buffers.specs.Positions.{table}
use Rattle.pairs.specs.Pairs.{indicator, sum_to}
use Rattle.pairs.specs.Sums.{sum_same, sum_zero, sum_plus, sum_pick}
use Rattle.pairs.specs.Integers.{position, position_lt, position-minus, position-same}
use Rattle.tally.specs.Tally.{EachSmall, occurrences, Line, line_of, lines_of, sample_at, count_at, lines, sumℤ, square, squares}
use Rattle.tally.specs.LineLaws.{line_total, line_sum}

-- ---- sums over the lines, and over the values that they may have

module _ (f : ℤ → ℕ) where
  first-total : (d : ℤ) (c : ℕ) (ls : List Line) → line_total f (line_of d c ++ ls) ≡ c * f d + line_total f ls
  unfolding total
  first-total d zero ls = omega arith
  first-total d (suc c) ls = rw (eqb-suc-zero c)

  lines-total : (m : ℕ) (d : ℕ → ℤ) (n : ℕ → ℕ) → line_total f (lines_of m d n) ≡ sum_to m (λ e. n e * f (d e))
  unfolding lines_of total table
  lines-total zero d n = refl
  lines-total (suc m) d n = first-total (d 0) (n 0) _ ∙ ap (λ (s : ℕ). n 0 * f (d 0) + s) (lines-total m (λ e. d (suc e)) (λ e. n (suc e)))

first-sum : (d : ℤ) (c : ℕ) (ls : List Line) → line_sum (line_of d c ++ ls) ≡ pos c *ℤ d +ℤ line_sum ls
unfolding sumℤ
first-sum d zero ls = sym (ap (λ (z : ℤ). z +ℤ line_sum ls) (zero-*ℤ d) ∙ +ℤ_idl (line_sum ls))
first-sum d (suc c) ls = rw (eqb-suc-zero c)

lines-sum : (b m : ℕ) (a n : ℕ → ℕ) → line_sum (lines_of m (λ e. pos (a e) -ℤ pos b) n) ≡ pos (sum_to m (λ e. n e * a e)) -ℤ pos (sum_to m (λ e. n e * b))
unfolding lines_of total table sumℤ
lines-sum b zero a n = refl
lines-sum b (suc m) a n =
    first-sum (pos (a 0) -ℤ pos b) (n 0) _
    ∙ ap₂ ◌+ℤ◌ (minus_times (n 0) (a 0) b) (lines-sum b m (λ e. a (suc e)) (λ e. n (suc e)))
    ∙ minus_plus (n 0 * a 0) (n 0 * b) _ _

-- ---- and over the samples

counted : (g : ℕ → ℕ) (zs : List ℤ) → EachSmall zs → sum_to 33 (λ e. count_at zs e * g e) ≡ total (map (λ z. g (position 16 z)) zs)
unfolding occurrences total
counted g [] h = sum_zero 33 _ (λ e l. N.zero-mul (g e))
counted g (z ∷ zs) h =
    sum_same 33 _ (λ e. indicator (eqb (position 16 z) e) * g e + count_at zs e * g e)
    (λ e l. ap (λ (b : Bool). (indicator b + count_at zs e) * g e) (position-same 16 z h.0 e) ∙ omega arith)
    ∙ sum_plus 33 (λ e. indicator (eqb (position 16 z) e) * g e) (λ e. count_at zs e * g e)
    ∙ ap₂ ◌+◌ (sum_pick 33 (position 16 z) g (position_lt 16 z h.0)) (counted g zs h.1)

total_ones : (zs : List ℤ) → total (map (λ z. 1) zs) ≡ length zs
unfolding total
total_ones [] = refl
total_ones (z ∷ zs) = omega (arith, total_ones zs)

total-squares : (zs : List ℤ) → EachSmall zs → total (map (λ z. square (sample_at (position 16 z))) zs) ≡ squares zs
unfolding total
total-squares [] h = refl
total-squares (z ∷ zs) h = ap₂ ◌+◌ (ap square (position-minus 16 z h.0)) (total-squares zs h.1)

sum_positions : (zs : List ℤ) → EachSmall zs → pos (total (map (position 16) zs)) -ℤ pos (total (map (λ z. 16) zs)) ≡ sumℤ zs
unfolding sumℤ total
sum_positions [] h = refl
sum_positions (z ∷ zs) h = sym (minus_plus (position 16 z) 16 (total (map (position 16) zs)) (total (map (λ z. 16) zs))) ∙ ap₂ ◌+ℤ◌ (position-minus 16 z h.0) (sum_positions zs h.1)

-- ---- the last line, by the lines above it

module _ (zs : List ℤ) (h : EachSmall zs) where
  -- the total is the sum of the printed counts
  pub total-printed : total (map (λ l. l.count) (lines zs)) ≡ length zs
  total-printed = (simp N.mul-one at (lines-total (λ z. 1) 33 sample_at (count_at zs) ∙ counted (λ e. 1) zs h)) ∙ total_ones zs

  pub sum-printed : line_sum (lines zs) ≡ sumℤ zs
  sum-printed =
      lines-sum 16 33 (λ e. e) (count_at zs)
      ∙ ap₂ (λ (v w : ℕ). pos v -ℤ pos w) (counted (λ e. e) zs h) (counted (λ e. 16) zs h)
      ∙ sum_positions zs h

  pub squares-printed : line_total square (lines zs) ≡ squares zs
  squares-printed = lines-total square 33 sample_at (count_at zs) ∙ counted (λ e. square (sample_at e)) zs h ∙ total-squares zs h
