-- Facts of the code's steps.
use mathlib.Core.Path.{◌≡◌, sym, ap, ◌∙◌}
use mathlib.Core.List.{List, ◌++◌}
use Prim.Native.Nat.{ℕ, ◌+◌, ◌-◌, ◌*◌, ◌≤◌, ◌<◌}
use native.Mathlib.Nat.{zero-add}
use native.Mathlib.Omega.{arith}
use lib.ListN.{length, take, drop}
use lib.Seq.{get_or-drop}
use Rattle.buffers.specs.Overwrite.{overwrite}
use Rattle.buffers.specs.Positions.{at, table, Same, block}
use Rattle.buffers.specs.PositionLaws.{table_list, front_same}
use Rattle.buffers.specs.Rows.{rows_none, rows_next, rows-length}
use Rattle.buffers.specs.Blocks.{length-block, block_at, part-block, put_block}
use Rattle.totals.specs.Sample.{sample_shares, sample_words}
use Rattle.sampler.proofs.Calls.{shares_local}
use Rattle.polynomial.specs.Polynomial.{coefficient_shares, polynomial_shares}
use Rattle.polynomial.specs.Calls.{length-coefficient}

-- a block, as it is lent
abbrev part : ℕ → ℕ → List ℕ → List ℕ
part c t l = take (t * c + c - t * c) (drop (t * c) l)

-- its shares, copied to the front of an array
pub block_gathered : (n t : ℕ) (x l a : List ℕ) → n ≤ 8 → t * n + n ≤ length x → a ≡ overwrite l 0 (take 8 (part n t x)) → Same n (at a) (at (block n t x))
block_gathered n t x l a h f e i g =
    let m = length-block n x t f in
    front_same l (block n t x) a 8 (e ∙ ap (λ (p : List ℕ). overwrite l 0 (take 8 p)) (part-block n t x)) (omega arith) i (omega arith)

module _ (n k q : ℕ) (x y words : List ℕ) (t : ℕ) where
  -- its shares are a row
  coefficient-row : coefficient_shares n k q x y words t ≡ table n (at (coefficient_shares n k q x y words t))
  coefficient-row = sym (table_list n (coefficient_shares n k q x y words t) (length-coefficient n k q x y words t))

  -- one more behind the first t
  pub coefficients_next : (before out after : List ℕ) → out ≡ overwrite before 0 (polynomial_shares n k q t x y words) → after ≡ overwrite out (t * n) (coefficient_shares n k q x y words t)
      → after ≡ overwrite before 0 (polynomial_shares n k q (t + 1) x y words)
  unfolding polynomial_shares
  coefficients_next before out after e d =
      d ∙ ap (λ (p : ℕ). overwrite out p (coefficient_shares n k q x y words t)) (sym (zero-add (t * n))) ∙ rows_next before 0 n _ t out _ e coefficient-row

  pub coefficients_length : (before out : List ℕ) → out ≡ overwrite before 0 (polynomial_shares n k q t x y words) → t * n ≤ length before → length out ≡ length before
  unfolding polynomial_shares
  coefficients_length before out e h = rows-length before 0 n _ t out e (omega arith)

  -- the sample of arrays with the shares of the blocks in front, and of the words from block t on, put back
  pub coefficient_put : 2 < q → (start : ℕ) → start ≡ t * sample_words n k → (a b out after : List ℕ) → t * n + n ≤ length out → Same n (at a) (at (block n t x)) → Same n (at b) (at (block n t y))
      → after ≡ overwrite (part n t out) 0 (sample_shares n k q a b (drop start words))
      → take (t * n) out ++ (after ++ drop (t * n + n - t * n) (drop (t * n) out)) ≡ overwrite out (t * n) (coefficient_shares n k q x y words t)
  unfolding coefficient_shares
  coefficient_put large start p a b out after h f g e =
      let w : Same (sample_words n k) (at (drop start words)) (at (block (sample_words n k) t words)) = λ i l. get_or-drop start words i 0 ∙ ap (at words) (omega arith) ∙ sym (block_at (sample_words n k) words t i l) in
      rw (e, shares_local n k q large a (block n t x) b (block n t y) (drop start words) (block (sample_words n k) t words) f g w)
      (put_block n t out (coefficient_shares n k q x y words t) h (length-coefficient n k q x y words t))

pub coefficients_none : (n k q : ℕ) (x y words out : List ℕ) → out ≡ overwrite out 0 (polynomial_shares n k q 0 x y words)
unfolding polynomial_shares
coefficients_none n k q x y words out = rows_none out 0 n _
