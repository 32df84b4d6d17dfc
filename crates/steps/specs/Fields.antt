-- The range of each field of a record, and that the records are bytes.
use Rattle.std.specs.Prelude.{◌≡◌, length, get_or}
use mathlib.Core.List.{List, [], ◌∷◌}
use Prim.Native.Nat.{ℕ, zero, suc, suc-le-suc, ◌+◌, ◌*◌, ◌≤◌, ◌<◌}
use Rattle.std.proofs.Common.{not-suc-le-zero, le_of_suc-le-suc, arith}
use Rattle.residue.specs.Residue.{EachBelow}
use Rattle.residue.proofs.Laws.{add_lt, mul_lt}
use Rattle.residue.proofs.Sum.{each-below-append}
use Rattle.buffers.specs.Positions.{at, Below}
use Rattle.checks.specs.Width.{bit_lt}
use Rattle.conversion.proofs.Laws.{pairs-most, extend_lt, convert_lt}
use Rattle.conversion.proofs.ZeroSharing.{transfer-below}
use Rattle.totals.proofs.Totals.{string_share_lt}
use Rattle.records.specs.Records.{Step, step, none, step_bytes, bytes}
use Rattle.steps.specs.Steps.{step_records, record_count}
use Rattle.steps.specs.Walk.{BitRecords, sample-each}
use Rattle.steps.specs.Count.{record_count_lem}

-- shares are counted from 1; rounds and pairs too, and 0 stands where there is none
pub record Proper (n k q : ℕ) (s : Step) : Type 0 where
  pub bit : s.bit < 2 * k
  pub round : s.round ≤ 28
  pub first : 1 ≤ s.share
  pub share : s.share ≤ n
  pub kind : s.kind ≤ 5
  pub value : s.value < q
  pub bit-value : s.kind ≡ 0 → s.value < 2

-- ---- records

module _ (n k q : ℕ) (eight : n ≤ 8) (large : 2 < q) where
  abbrev pos : 0 < q
  pos = omega arith

  -- of share s + 1
  proper : (bit round s kind value : ℕ) → bit < 2 * k → round ≤ 28 → s < n → kind ≤ 5 → value < q → (kind ≡ 0 → value < 2) → Proper n k q (step bit round (suc s) kind value)
  proper bit round s kind value hb hr hs hk hv hz = record { bit = hb; round = hr; first = omega arith; share = hs; kind = hk; value = hv; bit-value = hz }

  proper-bit : (bit : ℕ) (b w totals : ℕ → ℕ) → bit < 2 * k → ((j : ℕ) → b j < 2) → ((i : ℕ) → totals i < q) → BitRecords {E = Unit} (λ r. (e : Unit) → Proper n k q (r e)) q n bit (λ e. b) (λ e. w) (λ e. totals)
  proper-bit bit b w totals hb two h =
      record {
        share = λ j l e. proper _ _ _ _ _ hb (omega arith) l (omega arith) (omega (arith, two j)) (λ z. two j);
        extended = λ j i one l m e. proper _ _ _ _ _ hb (omega arith) (omega arith) (omega arith) (extend_lt q pos j _ _ i) (λ z. absurd (omega arith));
        product = λ j i one l m e. proper _ _ _ _ _ hb (omega arith) (omega arith) (omega arith) (mul_lt q pos _ _) (λ z. absurd (omega arith));
        converted = λ j i one l m e. proper _ _ _ _ _ hb (omega arith) (omega arith) (omega arith) (convert_lt q (suc j) b w (omega (arith, two 0)) i) (λ z. absurd (omega arith));
        Refreshed = λ A. Below q n (A tt);
        unrefreshed = λ i l. convert_lt q n b w (omega (arith, two 0)) i;
        transferred = λ A i m j a g l c. transfer-below q pos n i m _ (A tt) a;
        pair = λ A p s a one l g e. proper _ _ _ _ _ hb (omega (arith, pairs-most n eight)) g (omega arith) (a s g) (λ z. absurd (omega arith));
        total = λ i l e. proper _ _ _ _ _ hb (omega arith) l (omega arith) (h i) (λ z. absurd (omega arith));
      }

  module _ (x y words : List ℕ) where
    pub records-proper : (p : ℕ) → p < record_count n k → Proper n k q (get_or (step_records n k q x y words) p none)
    records-proper p l =
        (sample-each _ q n k (λ e. at x) (λ e. at y) (λ e. at words)
        (λ t h. proper-bit (0 + t) _ _ _ (omega arith) (λ j. bit_lt (at x j) t) (string_share_lt q n pos (suc t) _ _))
        (λ t h. proper-bit (k + t) _ _ _ (omega arith) (λ j. bit_lt (at y j) t) (λ i. add_lt q pos _ _))
        ).each p l tt

-- ---- bytes

abbrev Bytes : List ℕ → Type 0
Bytes [] = Unit
Bytes (a ∷ l) = (a < 256) × Bytes l

each_byte : (l : List ℕ) → Bytes l → EachBelow 256 l
each_byte [] r i m = absurd (not-suc-le-zero m)
each_byte (a ∷ l) r zero m = r.0
each_byte (a ∷ l) r (suc i) m = each_byte l r.1 i (le_of_suc-le-suc m)

module _ (n k q : ℕ) (eight : n ≤ 8) (sixteen : k ≤ 16) (word : q < 65536) where
  step-below : (s : Step) → Proper n k q s → EachBelow 256 (step_bytes s)
  step-below s r =
      each_byte (step_bytes s) (omega arith, (omega arith, (omega (arith, r.bit), (omega (arith, r.round), (omega (arith, r.share), (omega (arith, r.kind), (omega arith, (omega (arith, r.value), tt))))))))

  bytes_below : (l : List Step) → ((p : ℕ) → p < length l → Proper n k q (get_or l p none)) → EachBelow 256 (bytes l)
  unfolding bytes
  bytes_below [] r = λ i m. absurd (not-suc-le-zero m)
  bytes_below (s ∷ l) r = each-below-append 256 (step_bytes s) (bytes l) (step-below s (r zero (omega arith))) (bytes_below l (λ p m. r (suc p) (suc-le-suc m)))

  pub records-bytes : 2 < q → (x y words : List ℕ) → EachBelow 256 (bytes (step_records n k q x y words))
  records-bytes large x y words = bytes_below (step_records n k q x y words) (λ p l. records-proper n k q eight large x y words p (rw (record_count_lem n k q x y words) at l))
