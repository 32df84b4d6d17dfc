-- Maps of words, as functions of the position, and the maps of full lists that they are.
use Rattle.std.specs.Prelude.{◌≡◌, List}
use Rattle.std.proofs.Math.Path.{ap}
use Rattle.std.proofs.Common.{◌∙◌, arith}
use Prim.Native.Nat.{ℕ, ◌≤◌, ◌<◌}
use Rattle.std.proofs.Math.Decide.{dec_lt}
use Rattle.std.proofs.Math.ListN.{get_or-eq_default}
use Rattle.residue.specs.Residue.{reduce}
use Rattle.residue.proofs.Laws.{reduce-small, reduce_zero}
use Rattle.buffers.specs.Positions.{at, table}
use Rattle.buffers.specs.PositionLaws.{length-table, table_below, table_list, list_table}
use Rattle.secrecy.specs.Secrecy.{Full, OneToOne}
use Rattle.secrecy.proofs.Laws.{undone-one_to_one}

-- every word is reduced
abbrev pub Reduced : ℕ → (ℕ → ℕ) → Type 0
Reduced q w = (j : ℕ) → reduce q (w j) ≡ w j

-- 0 from position W on
abbrev pub Ends : ℕ → (ℕ → ℕ) → Type 0
Ends W w = (j : ℕ) → W ≤ j → w j ≡ 0

module _ {q W : ℕ} {ws : List ℕ} (h : Full q W ws) where
  pub full-ends : Ends W (at ws)
  full-ends j l = get_or-eq_default ws 0 (omega (arith, h.count))

  pub full-reduced : Reduced q (at ws)
  full-reduced j = go (dec_lt j W)
    where
      go : Dec (j < W) → reduce q (at ws j) ≡ at ws j
      go (yes l) = reduce-small q (h.below j (omega (arith, h.count)))
      go (no g) = rw (full-ends j (omega arith)) (reduce_zero q)

-- a map m of words on lists of W words
unfoldable pub on_lists : ℕ → ((ℕ → ℕ) → ℕ → ℕ) → List ℕ → List ℕ
on_lists W m ws = table W (m (at ws))

-- m gives words below q, moves only the first W, and u undoes it
pub record Undone (q W : ℕ) (m u : (ℕ → ℕ) → ℕ → ℕ) : Type 0 where
  pub small : (w : ℕ → ℕ) (j : ℕ) → m w j < q
  pub ends : (w : ℕ → ℕ) → Ends W w → Ends W (m w)
  pub undone : (w : ℕ → ℕ) → Reduced q w → u (m w) ≡ w

module _ {q W : ℕ} {m u : (ℕ → ℕ) → ℕ → ℕ} (M : Undone q W m u) where
  pub at-on_lists : {ws : List ℕ} → Full q W ws → at (on_lists W m ws) ≡ m (at ws)
  unfolding on_lists
  at-on_lists {ws} s = list_table W (m (at ws)) (M.ends (at ws) (full-ends s))

  on_lists-full : (ws : List ℕ) → Full q W ws → Full q W (on_lists W m ws)
  unfolding on_lists
  on_lists-full ws s = record { count = length-table W (m (at ws)); below = table_below q W (m (at ws)) (λ j l. M.small (at ws) j) }

  on_lists-undone : (ws : List ℕ) → Full q W ws → on_lists W u (on_lists W m ws) ≡ ws
  unfolding on_lists
  on_lists-undone ws s = ap (λ (w : ℕ → ℕ). table W (u w)) (at-on_lists s) ∙ ap (table W) (M.undone (at ws) (full-reduced s)) ∙ table_list W ws s.count

pub on_lists-one_to_one : {q W : ℕ} {m u : (ℕ → ℕ) → ℕ → ℕ} → Undone q W m u → Undone q W u m → OneToOne (Full q W) (on_lists W m)
on_lists-one_to_one M U = undone-one_to_one (on_lists-full M) (on_lists-full U) (on_lists-undone M) (on_lists-undone U)
