-- Laws of finite sums.
use Rattle.std.specs.Prelude.{◌≡◌, refl, Bool, true, false, ℕ, zero, suc, ◌+◌, ◌*◌, ◌≤◌, ◌<◌, eqb}
use Rattle.std.proofs.Common.{sym, ap, ◌∙◌, suc-le-suc, arith}
use Rattle.std.proofs.Math.Nat as N
use Rattle.std.proofs.Math.Dec.{eqb-zero-suc, eqb-suc-zero, eqb-suc-suc}
use Rattle.residue.specs.Residue.{total}
use Rattle.buffers.specs.Positions.{table, after, Same}
use Rattle.buffers.specs.PositionLaws.{after_zero, table_same}
use Rattle.pairs.specs.Pairs.{indicator, sum_to}

pub indicator_le : (b : Bool) → indicator b ≤ 1
indicator_le true = omega arith
indicator_le false = omega arith

pub sum_same : (n : ℕ) (f g : ℕ → ℕ) → Same n f g → sum_to n f ≡ sum_to n g
sum_same n f g h = ap total (table_same n f g h)

pub sum_const : (n c : ℕ) → sum_to n (λ i. c) ≡ n * c
unfolding total table
sum_const zero c = omega arith
sum_const (suc n) c = omega (arith, sum_const n c)

pub sum_zero : (n : ℕ) (f : ℕ → ℕ) → ((i : ℕ) → i < n → f i ≡ 0) → sum_to n f ≡ 0
sum_zero n f h = sum_same n f (λ i. 0) h ∙ sum_const n 0 ∙ N.mul-zero n

pub sum_le : (n c : ℕ) (f : ℕ → ℕ) → ((i : ℕ) → i < n → f i ≤ c) → sum_to n f ≤ n * c
unfolding total table
sum_le zero c f h = omega arith
sum_le (suc n) c f h = omega (arith, h 0 (omega arith), sum_le n c (λ i. f (suc i)) (λ i l. h (suc i) (suc-le-suc l)))

pub sum_plus : (n : ℕ) (f g : ℕ → ℕ) → sum_to n (λ i. f i + g i) ≡ sum_to n f + sum_to n g
unfolding total table
sum_plus zero f g = omega arith
sum_plus (suc n) f g = omega (arith, sum_plus n (λ i. f (suc i)) (λ i. g (suc i)))

-- the first m terms, and the others
pub sum_split : (m n : ℕ) (f : ℕ → ℕ) → sum_to (n + m) f ≡ sum_to m f + sum_to n (after m f)
unfolding total table
sum_split zero n f = simp (N.add-zero, N.zero-add) (ap (sum_to n) (sym (after_zero f)))
sum_split (suc m) n f =
    rw (N.add-suc n m) (omega (arith, sum_split m n (λ i. f (suc i)), sum_same n (after m (λ i. f (suc i))) (after (suc m) f) (λ i l. ap f (sym (N.suc-add m i)))))

pub sum_swap : (n m : ℕ) (f : ℕ → ℕ → ℕ) → sum_to n (λ i. sum_to m (f i)) ≡ sum_to m (λ j. sum_to n (λ i. f i j))
unfolding total table
sum_swap zero m f = sym (sum_zero m _ (λ j l. refl))
sum_swap (suc n) m f = rw (sum_swap n m (λ i. f (suc i))) (sym (sum_plus m (f 0) (λ j. sum_to n (λ i. f (suc i) j))))

-- the one term that a test picks
pub sum_pick : (n p : ℕ) (g : ℕ → ℕ) → p < n → sum_to n (λ i. indicator (eqb p i) * g i) ≡ g p
unfolding total table
sum_pick zero p g h = absurd (N.not-suc-le-zero h)
sum_pick (suc n) zero g h = simp (eqb-zero-suc, N.zero-mul) (omega (arith, sum_const n 0))
sum_pick (suc n) (suc p) g h = simp (eqb-suc-zero, eqb-suc-suc, N.zero-mul, N.zero-add) (sum_pick n p (λ i. g (suc i)) (N.le_of_suc-le-suc h))
