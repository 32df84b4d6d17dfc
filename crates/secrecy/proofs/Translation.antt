-- The one argument. Random words are moved by a translation, whose effect on the outputs is known. Where every wanted change of the outputs
-- that are seen is the effect of some move, two runs that both move along with it cannot be told apart: each word list is moved by what the
-- two runs differ in, and that difference does not see the move.
use Rattle.std.specs.Prelude.{◌≡◌, ℕ, ◌+◌, ◌-◌, ◌≤◌, ◌<◌}
use Rattle.std.proofs.Math.Path.{sym, ap, fun_ext}
use Rattle.std.proofs.Common.{◌∙◌, arith}
use Rattle.residue.specs.Residue.{reduce, add, neg, sub}
use Rattle.residue.proofs.Laws.{add_comm, add_assoc, zero_add, add_zero, reduce-add, add-reduce_right, reduce_zero, add_lt, neg_zero, sub-shift, add-sub, sub-add, add_sub_cancel}
use Rattle.buffers.specs.Positions.{at, after, join, Same}
use Rattle.buffers.specs.PositionLaws.{join-below, join_from}
use Rattle.secrecy.specs.Secrecy.{Full, Indistinguishable, AlikeIn}
use Rattle.secrecy.proofs.Words.{Reduced, Ends, Undone, full-reduced, on_lists, at-on_lists, on_lists-one_to_one}

-- the words w, each moved by e's
abbrev pub moved : ℕ → (ℕ → ℕ) → (ℕ → ℕ) → ℕ → ℕ
moved q w e j = add q (w j) (e j)

-- each word taken off instead
abbrev pub opposite : ℕ → (ℕ → ℕ) → ℕ → ℕ
opposite q e j = neg q (e j)

-- Moves of the first W words, and outputs of which some are seen.
pub record Translation (q W : ℕ) {I : Type 0} (Seen : I → Type 0) : Type 1 where
  -- the moves: of no word behind the first W, and with each its opposite
  pub Move : (ℕ → ℕ) → Type 0
  pub ends : (e : ℕ → ℕ) → Move e → Ends W e
  pub back : (e : ℕ → ℕ) → Move e → Move (opposite q e)
  -- by how much a move changes output i
  pub effect : (ℕ → ℕ) → I → ℕ
  -- a move that changes each output that is seen by d
  pub solution : (I → ℕ) → ℕ → ℕ
  pub solution_moves : (d : I → ℕ) → Move (solution d)
  pub solves : (d : I → ℕ) (i : I) → Seen i → effect (solution d) i ≡ reduce q (d i)

module _ {q W : ℕ} {I : Type 0} {Seen : I → Type 0} (T : Translation q W Seen) where
  -- the outputs g move along with the words
  pub record Equivariant (g : (ℕ → ℕ) → I → ℕ) : Type 0 where
    pub reduced : (w : ℕ → ℕ) (i : I) → reduce q (g w i) ≡ g w i
    pub shift : (w e : ℕ → ℕ) → Reduced q w → T.Move e → (i : I) → g (moved q w e) i ≡ add q (g w i) (T.effect e i)

  -- r does not see the moves
  abbrev pub Invariant : ((ℕ → ℕ) → I → ℕ) → Type 0
  Invariant r = (w e : ℕ → ℕ) → Reduced q w → T.Move e → (i : I) → r (moved q w e) i ≡ r w i

  pub equivariant_add : {g r : (ℕ → ℕ) → I → ℕ} → Equivariant g → Invariant r → Equivariant (λ w i. add q (g w i) (r w i))
  equivariant_add {g} {r} G R =
      record {
        reduced = λ w i. reduce-add q (g w i) (r w i);
        shift = λ w e s t i. rw (G.shift w e s t i, R w e s t i) (simp (add_assoc, add_comm));
      }

  module _ (pos : 0 < q) (g h : (ℕ → ℕ) → I → ℕ) (G : Equivariant g) (H : Equivariant h) where
    -- the move that makes up for what g and h differ in
    needed : (ℕ → ℕ) → ℕ → ℕ
    needed w = T.solution (λ i. sub q (g w i) (h w i))

    needed_moves : (w : ℕ → ℕ) → T.Move (needed w)
    unfolding needed
    needed_moves w = T.solution_moves (λ i. sub q (g w i) (h w i))

    needed_invariant : (w e : ℕ → ℕ) → Reduced q w → T.Move e → needed (moved q w e) ≡ needed w
    unfolding needed
    needed_invariant w e s t = ap T.solution (fun_ext (λ i. rw (G.shift w e s t i, H.shift w e s t i, sub-shift q pos)))

    there : (ℕ → ℕ) → ℕ → ℕ
    there w = moved q w (needed w)

    back_again : (ℕ → ℕ) → ℕ → ℕ
    back_again w = moved q w (opposite q (needed w))

    there-undone : Undone q W there back_again
    unfolding there back_again
    there-undone =
        record {
          small = λ w j. add_lt q pos (w j) (needed w j);
          ends = λ w z j l. rw (z j l, T.ends (needed w) (needed_moves w) j l, zero_add) (reduce_zero q);
          undone = λ w s. fun_ext (λ j. rw (needed_invariant w (needed w) s (needed_moves w), add_sub_cancel q pos) (s j));
        }

    back-undone : Undone q W back_again there
    unfolding there back_again
    back-undone =
        record {
          small = λ w j. add_lt q pos (w j) (neg q (needed w j));
          ends = λ w z j l. rw (z j l, T.ends (needed w) (needed_moves w) j l, neg_zero q pos, zero_add) (reduce_zero q);
          undone = λ w s. fun_ext (λ j. rw (needed_invariant w (opposite q (needed w)) s (T.back (needed w) (needed_moves w)), sub-add q pos) (s j));
        }

    agree : (w : ℕ → ℕ) → Reduced q w → (i : I) → Seen i → g w i ≡ h (there w) i
    unfolding there needed
    agree w s i l =
        sym (H.shift w (needed w) s (needed_moves w) i ∙ rw (T.solves (λ i. sub q (g w i) (h w i)) i l, add-reduce_right, add-sub q pos) (G.reduced w i))

    pub indistinguishable : Indistinguishable (Full q W) (AlikeIn Seen (λ ws. g (at ws)) (λ ws. h (at ws)))
    indistinguishable =
        record {
          map = on_lists W there;
          one_to_one = on_lists-one_to_one there-undone back-undone;
          alike = λ ws s i l. agree (at ws) (full-reduced s) i l ∙ ap (λ (w : ℕ → ℕ). h w i) (sym (at-on_lists there-undone s));
        }

-- ---- moves of the words of one block

-- a move of the words from o to o + c
pub record Within (o c : ℕ) (e : ℕ → ℕ) : Type 0 where
  pub before : (j : ℕ) → j < o → e j ≡ 0
  pub behind : (j : ℕ) → o + c ≤ j → e j ≡ 0

-- such a move keeps the words before and behind
module _ (q : ℕ) {o c : ℕ} (w e : ℕ → ℕ) (s : Reduced q w) (m : Within o c e) where
  pub before-stays : Same o (moved q w e) w
  before-stays j l = rw (m.before j l, add_zero) (s j)

  pub behind-stays : (p : ℕ) → o + c ≤ p → after p (moved q w e) ≡ after p w
  behind-stays p l = fun_ext (λ j. rw (m.behind (p + j) (omega arith), add_zero) (s (p + j)))

pub within-opposite : (q : ℕ) {o c : ℕ} → 0 < q → (e : ℕ → ℕ) → Within o c e → Within o c (opposite q e)
within-opposite q pos e m = record { before = λ j l. rw (m.before j l) (neg_zero q pos); behind = λ j l. rw (m.behind j l) (neg_zero q pos) }

-- d's first c values, at o and behind
pub within-join : (o c : ℕ) (d : ℕ → ℕ) → ((k : ℕ) → d (c + k) ≡ 0) → Within o c (join o (λ j. 0) d)
within-join o c d z = record { before = join-below o (λ j. 0) d; behind = λ j l. go j (j - (o + c)) (omega arith) }
  where
    go : (j k : ℕ) → j ≡ o + (c + k) → join o (λ j. 0) d j ≡ 0
    go j k p = rw (p, join_from o (λ j. 0) d (c + k)) (z k)
