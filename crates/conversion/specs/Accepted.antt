-- What it means, in plain facts, that a call passes its checks.
use Rattle.std.specs.Prelude.{◌≡◌, refl, List, ◌++◌, ℕ, ◌^◌, ◌≤◌, ◌<◌, length}
use Rattle.std.proofs.Common.{arith, leb-true, le-leb, eqb-true}
use Rattle.buffers.specs.Positions.{at, Below}
use Rattle.checks.specs.Checks.{Check, output_checks}
use Rattle.checks.specs.Laws.{Hold, hold-front, hold-rest, hold-both, within_true, none-each-below}
use Rattle.conversion.specs.Conversion.{sharing_checks, string_checks}
use Rattle.conversion.specs.Arrays.{Drawn, words_drawn, drawn_words}

-- n shares of a string of k bits
pub record SharedString (n k q : ℕ) (shares : List ℕ) : Type 0 where
  pub two : 2 ≤ n
  pub eight : n ≤ 8
  pub one : 1 ≤ k
  pub sixteen : k ≤ 16
  pub modulus : 3 ≤ q
  pub count : length shares ≡ n
  pub below : Below (2 ^ k) n (at shares)

pub shared_string : (n k q : ℕ) (shares : List ℕ) → Hold (string_checks n k q shares) → SharedString n k q shares
shared_string n k q shares h =
    let e : length shares ≡ n = eqb-true _ _ h.1.1.1.0 in
    record {
      two = (within_true 2 8 n h.0).0;
      eight = (within_true 2 8 n h.0).1;
      one = (within_true 1 16 k h.1.0).0;
      sixteen = (within_true 1 16 k h.1.0).1;
      modulus = leb-true _ _ h.1.1.0;
      count = e;
      below = λ i l. none-each-below (2 ^ k) shares 0 h.1.1.1.1.0 i (omega arith);
    }

-- a bit is a string of one
pub shared_bit : (n q : ℕ) (bits : List ℕ) → Hold (sharing_checks n q bits) → SharedString n 1 q bits
shared_bit n q bits h = shared_string n 1 q bits (h.0, (refl, h.1))

pub first_lt : {n q : ℕ} {bits : List ℕ} → SharedString n 1 q bits → at bits 0 < q
first_lt S = omega (arith, S.below 0 (omega (arith, S.two)), S.modulus)

-- Words and output of a call that puts the checks `first` before 8, 9 and 10 and `rest` behind them, and asks for `count` words from `start` on
-- and for room for so many shares.
module _ (first : List Check) (start count q : ℕ) (words : List ℕ) (shares room : ℕ) (rest : List Check) where
  abbrev behind : List Check
  behind = output_checks start count q words shares room ++ rest

  pub fit-first : Hold (first ++ behind) → Hold first
  fit-first h = hold-front first behind h

  pub fit_drawn : Hold (first ++ behind) → Drawn q start count words
  fit_drawn h = let r = hold-rest first behind h in words_drawn q start count words (r.0, (r.1.0, tt))

  pub fit-room : Hold (first ++ behind) → shares ≤ room
  fit-room h = leb-true _ _ (hold-rest first behind h).1.1.0

  pub fit-rest : Hold (first ++ behind) → Hold rest
  fit-rest h = (hold-rest first behind h).1.1.1

  -- with enough words below q, and room, it is accepted where its other checks hold
  pub fit-holds : Hold first → Drawn q start count words → shares ≤ room → Hold rest → Hold (first ++ behind)
  fit-holds h d r l =
      let w = drawn_words q start count words d in
      hold-both first behind h (w.0, (w.1.0, (le-leb _ _ r, l)))
