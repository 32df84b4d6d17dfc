-- ML-KEM noise bytes, split into the shares of 256 coefficients (document 02, A.5).
use Rattle.std.specs.Prelude.{List, [], ◌∷◌, ◌++◌, ℕ, ◌+◌, ◌*◌, length}
use Rattle.buffers.specs.Overwrite.{overwrite}
use Rattle.buffers.specs.Positions.{at, table, rows, block}
use Rattle.checks.specs.FromBits.{from_bits}
use Rattle.checks.specs.Checks.{Check, Verdict, accepted, refused, verdict, Outcome, settled, within, share_count, exactly, at_least}
use Rattle.masking.specs.Sharing.{xor_all}
use Rattle.binomial.specs.declared.ParameterSet.{ParameterSet}
use Rattle.binomial.specs.Sets.{set, set_checks, parameter_set}
use Rattle.noise.specs.Fips203.{bytes_to_bits}

-- ---- the shares

-- string i of those that stand one after the other, 64 × k bytes each
abbrev pub noise_string : ℕ → List ℕ → ℕ → List ℕ
noise_string k bytes i = block (64 * k) i bytes

-- the k bits of a string from bit s on
abbrev pub word_at : ℕ → List ℕ → ℕ → ℕ
word_at k string s = from_bits k (λ j. at (bytes_to_bits string) (s + j))

-- where the bits of coefficient t begin in a string: those for x, and behind these k those for y
abbrev pub x_bit : ℕ → ℕ → ℕ
x_bit k t = 2 * t * k

abbrev pub y_bit : ℕ → ℕ → ℕ
y_bit k t = 2 * t * k + k

-- coefficient after coefficient; share i comes from string i
abbrev pub noise_shares : (ℕ → ℕ → ℕ) → ℕ → ℕ → List ℕ → List ℕ
noise_shares first n k bytes = rows 256 n (λ t i. word_at k (noise_string k bytes i) (first k t))

-- the bytes that n strings share: their XOR, byte by byte
unfoldable pub opened_bytes : ℕ → ℕ → List ℕ → List ℕ
opened_bytes n k bytes = table (64 * k) (λ p. xor_all (table n (λ i. at (noise_string k bytes i) p)))

-- ---- the call

-- the published set of a number; where there is none, k and q are 0
abbrev pub or_none : Verdict ParameterSet → ParameterSet
or_none (accepted s) = s
or_none (refused code position) = set 0 0

abbrev pub set_of : ℕ → ParameterSet
set_of number = or_none (parameter_set number)

-- 24: of the published sets, it is 1 or 2
abbrev pub noise_set : ℕ → Check
noise_set number = record { holds = within 1 2 number; code = 24; position = 0 }

-- 24, 25, and 10 for x and for y
abbrev pub list_checks : ℕ → ℕ → ℕ → List ℕ → ℕ → ℕ → List Check
list_checks n number k bytes xroom yroom = noise_set number ∷ exactly 25 (n * (64 * k)) bytes ∷ at_least 10 (256 * n) xroom ∷ at_least 10 (256 * n) yroom ∷ []

-- 1, 22, and these with the k of the set
abbrev pub noise_checks : ℕ → ℕ → List ℕ → ℕ → ℕ → List Check
noise_checks n number bytes xroom yroom = share_count n ∷ set_checks number ++ list_checks n number (set_of number).k bytes xroom yroom

-- the two target lists
pub record Targets : Type 0 where
  pub x : List ℕ
  pub y : List ℕ

abbrev pub targets : List ℕ → List ℕ → Targets
targets x y = record { x = x; y = y }

-- an accepted call answers the words written to each
unfoldable pub noise_split : ℕ → ℕ → List ℕ → List ℕ → List ℕ → Outcome ℕ Targets
noise_split n number bytes x y =
    let k = (set_of number).k in
    settled (verdict (noise_checks n number bytes (length x) (length y)) (256 * n)) (targets x y)
    (targets (overwrite x 0 (noise_shares x_bit n k bytes)) (overwrite y 0 (noise_shares y_bit n k bytes)))
