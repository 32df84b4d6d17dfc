-- Laws of a list in blocks of c numbers, one behind the other.
use Rattle.std.specs.Prelude.{◌≡◌}
use Rattle.std.proofs.Math.Path.{sym, ap}
use Rattle.std.proofs.Common.{◌∙◌, not-suc-le-zero, le_of_suc-le-suc, take_at, drop_at, take-take}
use mathlib.Core.List.{List, [], ◌∷◌, ◌++◌, append_assoc, append-nil}
use Prim.Native.Nat.{ℕ, zero, suc, ◌+◌, ◌-◌, ◌*◌, ◌≤◌, ◌<◌}
use Rattle.std.proofs.Math.Nat as N
use native.Mathlib.Omega.{arith}
use Rattle.std.proofs.Math.ListN.{length, take, drop, length-take, length-drop, drop_of_length-le, get_or-eq_default}
use Rattle.std.proofs.Math.Seq.{get_or-take, get_or-drop, length-take-le, take-nil, drop-drop}
use Rattle.residue.specs.Residue.{EachBelow}
use Rattle.residue.proofs.Sum.{each-below-take, each-below-drop}
use Rattle.buffers.specs.Overwrite.{overwrite}
use Rattle.buffers.specs.Positions.{at, table, rows, block}
use Rattle.buffers.specs.PositionLaws.{length-table}

-- block t of m lies before the end
pub block-fits : {t m : ℕ} (c : ℕ) → t < m → t * c + c ≤ m * c
block-fits {t} {m} c h = N.le_trans (N.le_of_eq (sym (N.suc-mul t c))) (N.mul-le-mul_right c h)

drop-take : (d n : ℕ) (l : List ℕ) → drop d (take (d + n) l) ≡ take n (drop d l)
drop-take zero n l = ap (λ (j : ℕ). take j l) (N.zero-add n)
drop-take (suc d) n [] = rw (N.suc-add d n) (sym (take-nil n))
drop-take (suc d) n (a ∷ l) = rw (N.suc-add d n) (drop-take d n l)

module _ (c : ℕ) (l : List ℕ) where
  pub block-first : block c 0 l ≡ take c l
  unfolding block
  block-first = ap (λ (d : ℕ). take c (drop d l)) (N.zero-mul c)

  pub block-next : (t : ℕ) → block c (suc t) l ≡ block c t (drop c l)
  unfolding block
  block-next t =
      let e : c + t * c ≡ suc t * c = omega arith in
      sym (ap (take c) (drop-drop (t * c) c l ∙ ap (λ (d : ℕ). drop d l) e))

  pub block-below : (q t : ℕ) → EachBelow q l → EachBelow q (block c t l)
  unfolding block
  block-below q t h = each-below-take q c (drop (t * c) l) (each-below-drop q (t * c) l h)

  pub length-block : (t : ℕ) → t * c + c ≤ length l → length (block c t l) ≡ c
  unfolding block
  length-block t h = length-take-le c (drop (t * c) l) (omega (arith, length-drop (t * c) l))

  pub block_at : (t i : ℕ) → i < c → at (block c t l) i ≡ at l (t * c + i)
  unfolding block
  block_at t i h = get_or-take c (drop (t * c) l) i 0 h ∙ get_or-drop (t * c) l i 0

  -- and 0 behind its end
  pub block_past : (t i : ℕ) → c ≤ i → at (block c t l) i ≡ 0
  unfolding block
  block_past t i h = get_or-eq_default (take c (drop (t * c) l)) 0 (omega (arith, length-take c (drop (t * c) l)))

  -- a block of the first m
  pub block-front : (t m : ℕ) → t < m → block c t (take (m * c) l) ≡ block c t l
  unfolding block
  block-front t m h =
      let f = block-fits c h in
      let e : m * c ≡ t * c + (c + (m * c - (t * c + c))) = omega arith in
      rw (e, drop-take (t * c) (c + (m * c - (t * c + c))) l) (take-take c (c + (m * c - (t * c + c))) (drop (t * c) l) (omega arith))

-- a row is a block
pub block-rows : (k n : ℕ) (f : ℕ → ℕ → ℕ) (t : ℕ) → t < k → block n t (rows k n f) ≡ table n (f t)
unfolding rows
block-rows zero n f t h = absurd (not-suc-le-zero h)
block-rows (suc k) n f zero h =
    block-first n (rows (suc k) n f) ∙ take_at (table n (f zero)) (rows k n (λ t. f (suc t))) n (length-table n (f zero))
block-rows (suc k) n f (suc t) h =
    block-next n (rows (suc k) n f) t
    ∙ ap (block n t) (drop_at (table n (f zero)) (rows k n (λ t. f (suc t))) n (length-table n (f zero)))
    ∙ block-rows k n (λ t. f (suc t)) t (le_of_suc-le-suc h)

-- ---- a block that is lent as a part of the list, from t × c to t × c + c

module _ (c t : ℕ) (l : List ℕ) where
  pub part-block : take (t * c + c - t * c) (drop (t * c) l) ≡ block c t l
  unfolding block
  part-block =
      let e : t * c + c - t * c ≡ c = omega arith in
      ap (λ (j : ℕ). take j (drop (t * c) l)) e

  -- and is written
  pub put_block : (s : List ℕ) → t * c + c ≤ length l → length s ≡ c
      → take (t * c) l ++ (overwrite (take (t * c + c - t * c) (drop (t * c) l)) 0 s ++ drop (t * c + c - t * c) (drop (t * c) l)) ≡ overwrite l (t * c) s
  unfolding overwrite
  put_block s h d =
      let e : t * c + c - t * c ≡ c = omega arith in
      let m : length (take c (drop (t * c) l)) ≤ 0 + length s = omega (arith, length-take c (drop (t * c) l)) in
      rw (e, drop_of_length-le (take c (drop (t * c) l)) m, append-nil s, drop-drop c (t * c) l, d) (sym (append_assoc (take (t * c) l) s (drop (t * c + c) l)))
