-- From one shared bit to n numbers: document 01's steps 1, 2 and 3 (source 003, Algorithm 5), and the call. Of a string, the shares of each bit, and
-- the checks of a call that converts it.
-- Shares and words are functions of the position. Shares are counted from 0 here, from 1 on the page.
use Rattle.std.specs.Prelude.{cond, List, [], ◌∷◌, ◌++◌, ℕ, zero, suc, ◌+◌, ◌-◌, ◌*◌, ltb, eqb, length, drop}
use Rattle.residue.specs.Residue.{add, sub, sum}
use Rattle.buffers.specs.Overwrite.{overwrite}
use Rattle.buffers.specs.Positions.{at, table, after}
use Rattle.checks.specs.Width.{bit}
use Rattle.checks.specs.Checks.{Check, Outcome, verdict, settled, share_count, string_length, modulus_at_least, exactly, narrow, output_checks}

-- bit t of each share of a string
abbrev pub bits_at : (ℕ → ℕ) → ℕ → ℕ → ℕ
bits_at x t i = bit (x i) t

-- how many words a bit takes
abbrev pub bit_words : ℕ → ℕ
bit_words n = n * (n - 1)

-- and a string of k bits
abbrev pub value_words : ℕ → ℕ → ℕ
value_words n k = k * bit_words n

-- how many pairs n shares have. Steps 1 and 2 take that many words, and step 3 again.
unfoldable pub pairs : ℕ → ℕ
pairs zero = 0
pairs (suc n) = pairs n + n

module _ (q : ℕ) where
  -- ---- step 2 (source 003, Algorithm 7)

  -- From the list A of j shares (j − 1 on the page) and the next j words r: B(i) = A(i) − r(i), and behind them one share more, the sum of the r.
  unfoldable pub extend : ℕ → (ℕ → ℕ) → (ℕ → ℕ) → ℕ → ℕ
  extend j A r i = cond (ltb i j) (sub q (A i) (r i)) (sum q j r)

  -- v − 2 × v × b
  unfoldable pub less_twice : ℕ → ℕ → ℕ
  less_twice b v = sub q v (2 * v * b)

  -- C(i) = B(i) − 2 × B(i) × b, and b is added to C(1)
  unfoldable pub xor_bit : ℕ → (ℕ → ℕ) → ℕ → ℕ
  xor_bit b B zero = add q (less_twice b (B zero)) b
  xor_bit b B (suc i) = less_twice b (B (suc i))

  -- the list for one share more, with the next share b of the bit
  unfoldable pub xor_share : ℕ → (ℕ → ℕ) → (ℕ → ℕ) → ℕ → ℕ → ℕ
  xor_share j A r b = xor_bit b (extend j A r)

  -- ---- steps 1 and 2 (source 003, Algorithm 6)

  -- One share: the list is b(1) alone. For more, all but the last are converted first.
  unfoldable pub convert : ℕ → (ℕ → ℕ) → (ℕ → ℕ) → ℕ → ℕ
  convert zero b w = λ i. 0
  convert (suc zero) b w = λ i. b 0
  convert (suc (suc m)) b w = xor_share (suc m) (convert (suc m) b w) (after (pairs (suc m)) w) (b (suc m))

  -- ---- step 3 (source 003, Algorithm 8)

  -- the pair (i, m) takes the word r: share i gains r, share m loses r
  unfoldable pub transfer : ℕ → ℕ → ℕ → (ℕ → ℕ) → ℕ → ℕ
  transfer i m r A s = cond (eqb s i) (add q (A s) r) (cond (eqb s m) (sub q (A s) r) (A s))

  -- the pairs of share i with the c shares from m on, in their order
  unfoldable pub refresh_share : ℕ → ℕ → ℕ → (ℕ → ℕ) → (ℕ → ℕ) → ℕ → ℕ
  refresh_share i m zero w A = A
  refresh_share i m (suc c) w A = refresh_share i (suc m) c (λ j. w (suc j)) (transfer i m (w 0) A)

  -- the pairs of the c shares from i on: those of share i, then those of the next, and so on
  unfoldable pub refresh_from : ℕ → ℕ → (ℕ → ℕ) → (ℕ → ℕ) → ℕ → ℕ
  refresh_from i zero w A = A
  refresh_from i (suc c) w A = refresh_from (suc i) c (after c w) (refresh_share i (suc i) c w A)

  abbrev pub refresh : ℕ → (ℕ → ℕ) → (ℕ → ℕ) → ℕ → ℕ
  refresh n w A = refresh_from 0 n w A

  -- ---- the n shares of the bit: steps 1 and 2 with the first words, step 3 with those behind them

  unfoldable pub convert_bit : ℕ → (ℕ → ℕ) → (ℕ → ℕ) → ℕ → ℕ
  convert_bit n b w = refresh n (after (pairs n) w) (convert n b w)

  -- ---- the n shares of bit t of a string, whose bits take the words from bit 0 on, each the next n(n − 1)

  unfoldable pub row : ℕ → (ℕ → ℕ) → (ℕ → ℕ) → ℕ → ℕ → ℕ
  row n x w t = convert_bit n (bits_at x t) (after (t * bit_words n) w)

-- ---- the checks of a call that converts a string of k bits

-- of its shares: 1, 2, 3, 4, 6
abbrev pub string_checks : ℕ → ℕ → ℕ → List ℕ → List Check
string_checks n k q shares = share_count n ∷ string_length k ∷ modulus_at_least 3 q ∷ exactly 4 n shares ∷ narrow 6 k shares ∷ []

-- and behind them 8, 9, 10
abbrev pub value_checks : ℕ → ℕ → ℕ → List ℕ → List ℕ → ℕ → ℕ → List Check
value_checks n k q shares words start room = string_checks n k q shares ++ output_checks start (value_words n k) q words n room

-- A call that passes its checks answers `end` and leaves the shares in front of the output, and the rest as it was.
abbrev pub shares_out : List Check → ℕ → List ℕ → List ℕ → Outcome ℕ (List ℕ)
shares_out checks end shares out = settled (verdict checks end) out (overwrite out 0 shares)

-- ---- the one-bit call

unfoldable pub bit_shares : ℕ → ℕ → List ℕ → List ℕ → List ℕ
bit_shares n q bits words = table n (convert_bit q n (at bits) (at words))

-- the checks of the shared bit: 1, 3, 4, 6
abbrev pub sharing_checks : ℕ → ℕ → List ℕ → List Check
sharing_checks n q bits = share_count n ∷ modulus_at_least 3 q ∷ exactly 4 n bits ∷ narrow 6 1 bits ∷ []

-- and behind them 8, 9, 10
abbrev pub bit_checks : ℕ → ℕ → List ℕ → List ℕ → ℕ → ℕ → List Check
bit_checks n q bits words start room = sharing_checks n q bits ++ output_checks start (bit_words n) q words n room

-- The call takes the words from `start` on and answers the position after its last one (document 02, A.2).
unfoldable pub converted : ℕ → ℕ → List ℕ → List ℕ → ℕ → List ℕ → Outcome ℕ (List ℕ)
converted n q bits words start out = shares_out (bit_checks n q bits words start (length out)) (start + bit_words n) (bit_shares n q bits (drop start words)) out
