-- The checks (document 01: 'Questions put to a call'), and the verdict of a list of them. A call's checks are a list in the order of the page.
use Rattle.std.specs.Prelude.{Bool, cond, ◌&&◌, List, [], ◌∷◌, ◌++◌, ℕ, ◌+◌, ◌*◌, ◌^◌, leb, ltb, eqb, length, take, drop, is_none, unwrap_or}
use Rattle.checks.specs.Search.{first_from}

-- A check: whether it holds, and the number and the position (the page's 'place') of the refusal where it does not.
pub record Check : Type 0 where
  pub holds : Bool
  pub code : ℕ
  pub position : ℕ

-- How a call ends: accepted with what it answers, or refused with a number and a position.
pub data Verdict (A : Type 0) : Type 0 where
  accepted : A → Verdict A
  refused : ℕ → ℕ → Verdict A

-- The first check that fails refuses; where none does, the call is accepted with its answer.
unfoldable pub verdict : {A : Type 0} → List Check → A → Verdict A
verdict [] a = accepted a
verdict (c ∷ cs) a = cond c.holds (verdict cs a) (refused c.code c.position)

-- The verdict of the checks alone.
abbrev pub checked : List Check → Verdict Unit
checked cs = verdict cs tt

-- What a call answers, and what its buffers hold after it.
pub record Outcome (A B : Type 0) : Type 0 where
  pub answer : Verdict A
  pub buffers : B

-- A refusal changes nothing; an accepted call leaves what it wrote.
abbrev pub settled : {A B : Type 0} → Verdict A → B → B → Outcome A B
settled (accepted a) before after = record { answer = accepted a; buffers = after }
settled (refused c p) before after = record { answer = refused c p; buffers = before }

-- ---- the checks that several calls ask

-- a ≤ x ≤ b
abbrev pub within : ℕ → ℕ → ℕ → Bool
within a b x = leb a x && leb x b

-- 1: n is from 2 to 8
abbrev pub share_count : ℕ → Check
share_count n = record { holds = within 2 8 n; code = 1; position = 0 }

-- 2: k is from 1 to 16
abbrev pub string_length : ℕ → Check
string_length k = record { holds = within 1 16 k; code = 2; position = 0 }

-- 3: q is at least m
abbrev pub modulus_at_least : ℕ → ℕ → Check
modulus_at_least m q = record { holds = leb m q; code = 3; position = 0 }

-- the list has exactly n words
abbrev pub exactly : ℕ → ℕ → List ℕ → Check
exactly code n l = record { holds = eqb (length l) n; code = code; position = 0 }

-- there is room for n words, or there are that many
abbrev pub at_least : ℕ → ℕ → ℕ → Check
at_least code n room = record { holds = leb n room; code = code; position = 0 }

-- every word of the list, which begins at position `start`, is below the limit; the position is that of the first that is not
abbrev pub all_below_from : ℕ → ℕ → ℕ → List ℕ → Check
all_below_from code limit start l = record { holds = is_none (first_from limit start l); code = code; position = unwrap_or (first_from limit start l) 0 }

abbrev pub all_below : ℕ → ℕ → List ℕ → Check
all_below code limit l = all_below_from code limit 0 l

-- every share of the list has zero at bit k and above
abbrev pub narrow : ℕ → ℕ → List ℕ → Check
narrow code k l = all_below code (2 ^ k) l

-- the number is below the limit
abbrev pub below : ℕ → ℕ → ℕ → ℕ → Check
below code position limit x = record { holds = ltb x limit; code = code; position = position }

-- 1, 2 and 3 of the sampler: n, k, and q at least 2k + 1
abbrev pub parameter_checks : ℕ → ℕ → ℕ → List Check
parameter_checks n k q = share_count n ∷ string_length k ∷ modulus_at_least (2 * k + 1) q ∷ []

-- 4 to 7: x and y are lists of `count` shares of k bits
abbrev pub share_checks : ℕ → ℕ → List ℕ → List ℕ → List Check
share_checks count k x y = exactly 4 count x ∷ exactly 5 count y ∷ narrow 6 k x ∷ narrow 7 k y ∷ []

-- 8 and 9: there are at least `start` plus `count` words, and the `count` from `start` on are below q
abbrev pub word_checks : ℕ → ℕ → ℕ → List ℕ → List Check
word_checks start count q words = at_least 8 (start + count) (length words) ∷ all_below_from 9 q start (take count (drop start words)) ∷ []

-- 8 to 10: the words, and room in the output for so many shares
abbrev pub output_checks : ℕ → ℕ → ℕ → List ℕ → ℕ → ℕ → List Check
output_checks start count q words shares room = word_checks start count q words ++ (at_least 10 shares room ∷ [])

-- 10 and 11: room in the output for so many shares, and in the work area for so many totals
abbrev pub room_checks : ℕ → ℕ → ℕ → ℕ → List Check
room_checks shares room totals area = at_least 10 shares room ∷ at_least 11 totals area ∷ []

-- 8 to 11
abbrev pub buffer_checks : ℕ → ℕ → ℕ → List ℕ → ℕ → ℕ → ℕ → ℕ → List Check
buffer_checks start count q words shares room totals area = word_checks start count q words ++ room_checks shares room totals area
