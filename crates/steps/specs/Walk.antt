-- One walk over the records of a sample: what holds of each kind of record holds of each record, and how many they are.
use Rattle.std.specs.Prelude.{◌≡◌, refl, List, [], ◌∷◌, ◌++◌, length, get_or}
use Rattle.std.proofs.Math.Path.{sym, fun_ext}
use Rattle.std.proofs.Common.{ap, ap₂, subst, ◌∙◌, zero-mul, mul-one, not-suc-le-zero, arith, length-append, get_or-append-add}
use Prim.Native.Nat.{ℕ, zero, suc, ◌+◌, ◌-◌, ◌*◌, ◌≤◌, ◌<◌}
use Rattle.std.proofs.Math.Decide.{dec_lt}
use Rattle.std.proofs.Math.ListN.{get_or-append}
use Rattle.residue.specs.Residue.{mul, sub}
use Rattle.buffers.specs.Positions.{after}
use Rattle.conversion.specs.Conversion.{bits_at, bit_words, pairs, extend, xor_share, convert, transfer, refresh_share}
use Rattle.conversion.proofs.Laws.{pairs-twice}
use Rattle.totals.specs.Sample.{string_share}
use Rattle.records.specs.Records.{Step, step, none, across}
use Rattle.records.specs.Laws.{across-last}
use Rattle.steps.specs.Steps.{bit_count, round_steps, refresh_share_steps, refresh_steps, convert_steps, bit_steps, string_steps, sample_steps, record_count}

-- ---- how many records a bit has: those of round j + 1, and of the first n rounds
abbrev round_count : ℕ → ℕ
round_count zero = 1
round_count (suc j) = 3 * suc j + 4

abbrev rounds_count : ℕ → ℕ
rounds_count n = 3 * pairs n + (4 * n - 3)

rounds_next : (j : ℕ) → rounds_count (suc j) ≡ rounds_count j + round_count j
unfolding pairs
rounds_next zero = refl
rounds_next (suc j) = omega arith

-- and with them those of the pairs and of the output shares
bit_parts : (n : ℕ) → rounds_count n + 2 * pairs n + n ≡ bit_count n
unfolding pairs
bit_parts zero = refl
bit_parts (suc m) =
    let e : pairs (suc m) + pairs (suc m) ≡ suc m * m = pairs-twice (suc m) ∙ ap (λ (z : ℕ). suc m * z) (omega arith) in
    omega (arith, e)

twice : (k c : ℕ) → k * c + k * c ≡ 2 * k * c
twice k c = omega arith

-- E is what the records are made of, and P what is to hold of a record made of it.
module _ {E : Type 0} (P : (E → Step) → Type 0) where
  -- ---- lists of records

  -- There are c, whatever they are made of, and P holds of the record at each position.
  pub record Each (c : ℕ) (read : E → List Step) : Type 0 where
    pub count : (e : E) → length (read e) ≡ c
    pub each : (p : ℕ) → p < c → P (λ e. get_or (read e) p none)

  each_same : {c : ℕ} {f g : E → List Step} → ((e : E) → f e ≡ g e) → Each c f → Each c g
  each_same {c} h F = subst (Each c) (fun_ext h) F

  each-count : {c d : ℕ} {f : E → List Step} → c ≡ d → Each c f → Each d f
  each-count {c} {d} {f} h F = subst (λ (z : ℕ). Each z f) h F

  each_none : Each 0 (λ e. [])
  each_none = record { count = λ e. refl; each = λ p l. absurd (not-suc-le-zero l) }

  each-one : (r : E → Step) → P r → Each 1 (λ e. r e ∷ [])
  each-one r h = record { count = λ e. refl; each = go }
    where
      go : (p : ℕ) → p < 1 → P (λ e. get_or (r e ∷ []) p none)
      go zero l = h
      go (suc p) l = absurd (omega arith)

  each_append : {c d : ℕ} {f g : E → List Step} → Each c f → Each d g → Each (c + d) (λ e. f e ++ g e)
  each_append {c} {d} {f} {g} F G = record { count = λ e. length-append (f e) (g e) ∙ ap₂ ◌+◌ (F.count e) (G.count e); each = λ p l. go p l (dec_lt p c) }
    where
      go : (p : ℕ) → p < c + d → Dec (p < c) → P (λ e. get_or (f e ++ g e) p none)
      go p l (yes h) = subst P (fun_ext (λ e. sym (get_or-append (f e) (g e) none p (omega (arith, F.count e))))) (F.each p h)
      go p l (no h) = subst P (fun_ext (λ e. sym (behind e))) (G.each (p - c) (omega arith))
        where
          behind : (e : E) → get_or (f e ++ g e) p none ≡ get_or (g e) (p - c) none
          behind e =
              let d : p ≡ length (f e) + (p - c) = omega (arith, F.count e) in
              ap (λ (j : ℕ). get_or (f e ++ g e) j none) d ∙ get_or-append-add (f e) (g e) (p - c) none

  -- c i in list i, and C n in the first n lists
  each-across : (c C : ℕ → ℕ) (f : ℕ → E → List Step) → C 0 ≡ 0 → ((i : ℕ) → C (suc i) ≡ C i + c i)
      → (n : ℕ) → ((i : ℕ) → i < n → Each (c i) (f i)) → Each (C n) (λ e. across n (λ i. f i e))
  unfolding across
  each-across c C f first next zero F = each-count (sym first) each_none
  each-across c C f first next (suc n) F =
      each-count (sym (next n)) (each_same (λ e. sym (across-last n (λ i. f i e)))
      (each_append (each-across c C f first next n (λ i l. F i (omega arith))) (F n (omega arith))))

  -- as many in each
  each_times : (c n : ℕ) (f : ℕ → E → List Step) → ((i : ℕ) → i < n → Each c (f i)) → Each (n * c) (λ e. across n (λ i. f i e))
  each_times c n f F = each-across (λ i. c) (λ i. i * c) f (zero-mul c) (λ i. omega arith) n F

  each-share : (n : ℕ) (r : ℕ → E → Step) → ((i : ℕ) → i < n → P (r i)) → Each n (λ e. across n (λ i. r i e ∷ []))
  each-share n r h = each-count (mul-one n) (each_times 1 n (λ i e. r i e ∷ []) (λ i l. each-one (r i) (h i l)))

  module _ (q n : ℕ) where
    -- ---- a bit, of its shares b, its words w and the output shares with it in them

    pub record BitRecords (bit : ℕ) (b w totals : E → ℕ → ℕ) : Type 1 where
      -- round j + 1: the share of the bit, then B, its products with that share, and C, which is the list for j + 1 shares
      pub share : (j : ℕ) → j < n → P (λ e. step bit (suc j) (suc j) 0 (b e j))
      pub extended : (j i : ℕ) → 1 ≤ j → j < n → i ≤ j → P (λ e. step bit (suc j) (suc i) 1 (extend q j (convert q j (b e) (w e)) (after (pairs j) (w e)) i))
      pub product : (j i : ℕ) → 1 ≤ j → j < n → i ≤ j → P (λ e. step bit (suc j) (suc i) 2 (mul q (extend q j (convert q j (b e) (w e)) (after (pairs j) (w e)) i) (b e j)))
      pub converted : (j i : ℕ) → 1 ≤ j → j < n → i ≤ j → P (λ e. step bit (suc j) (suc i) 3 (convert q (suc j) (b e) (w e) i))
      -- the shares between two pairs of step 3: what holds of them, before the first and after each
      pub Refreshed : (E → ℕ → ℕ) → Type 0
      pub unrefreshed : Refreshed (λ e. convert q n (b e) (w e))
      pub transferred : (A : E → ℕ → ℕ) (i m j : ℕ) → Refreshed A → i < m → m < n → j < pairs n → Refreshed (λ e. transfer q i m (w e (pairs n + j)) (A e))
      pub pair : (A : E → ℕ → ℕ) (p s : ℕ) → Refreshed A → 1 ≤ p → p ≤ pairs n → s < n → P (λ e. step bit p (suc s) 4 (A e s))
      -- the output shares
      pub total : (i : ℕ) → i < n → P (λ e. step bit 0 (suc i) 5 (totals e i))

    module _ (bit : ℕ) (b w totals : E → ℕ → ℕ) (R : BitRecords bit b w totals) where
      -- steps 1 and 2
      round-each : (j : ℕ) → j < n → Each (round_count j) (λ e. round_steps q bit (b e) (w e) j)
      unfolding round_steps convert xor_share
      round-each zero l = each-one _ (R.share 0 l)
      round-each (suc j) l =
          each-count (omega arith)
          (each_append (each-one _ (R.share (suc j) l))
          (each_append (each-share (suc (suc j)) _ (λ i h. R.extended (suc j) i (omega arith) l (omega arith)))
          (each_append (each-share (suc (suc j)) _ (λ i h. R.product (suc j) i (omega arith) l (omega arith)))
          (each-share (suc (suc j)) _ (λ i h. R.converted (suc j) i (omega arith) l (omega arith))))))

      -- step 3: a word keeps what holds of the shares, whichever pair takes it
      abbrev Keeps : (E → ℕ) → Type 0
      Keeps r = (A : E → ℕ → ℕ) (i m : ℕ) → R.Refreshed A → i < m → m < n → R.Refreshed (λ e. transfer q i m (r e) (A e))

      share-kept : (i m c : ℕ) (v A : E → ℕ → ℕ) → i < m → m + c ≤ n → ((j : ℕ) → j < c → Keeps (λ e. v e j)) → R.Refreshed A → R.Refreshed (λ e. refresh_share q i m c (v e) (A e))
      unfolding refresh_share
      share-kept i m zero v A h l K a = a
      share-kept i m (suc c) v A h l K a =
          share-kept i (suc m) c (λ e j. v e (suc j)) (λ e. transfer q i m (v e 0) (A e)) (omega arith) (omega arith) (λ j k. K (suc j) (omega arith)) (K 0 (omega arith) A i m a h (omega arith))

      share-each : (p i m c : ℕ) (v A : E → ℕ → ℕ) → 1 ≤ p → p + c ≤ suc (pairs n) → i < m → m + c ≤ n → ((j : ℕ) → j < c → Keeps (λ e. v e j)) → R.Refreshed A
          → Each (2 * c) (λ e. refresh_share_steps q bit p i m c (v e) (A e))
      unfolding refresh_share_steps
      share-each p i m zero v A one last h l K a = each_none
      share-each p i m (suc c) v A one last h l K a =
          let a' = K 0 (omega arith) A i m a h (omega arith) in
          let T : E → ℕ → ℕ = λ e. transfer q i m (v e 0) (A e) in
          each-count (omega arith)
          (each_append (each_append (each-one _ (R.pair T p i a' one (omega arith) (omega arith))) (each-one _ (R.pair T p m a' one (omega arith) (omega arith))))
          (share-each (suc p) i (suc m) c (λ e j. v e (suc j)) T (omega arith) (omega arith) (omega arith) (omega arith) (λ j k. K (suc j) (omega arith)) a'))

      pairs-each : (p i c : ℕ) (v A : E → ℕ → ℕ) → 1 ≤ p → p + pairs c ≤ suc (pairs n) → i + c ≤ n → ((j : ℕ) → j < pairs c → Keeps (λ e. v e j)) → R.Refreshed A
          → Each (2 * pairs c) (λ e. refresh_steps q bit p i c (v e) (A e))
      unfolding refresh_steps pairs
      pairs-each p i zero v A one last l K a = each_none
      pairs-each p i (suc c) v A one last l K a =
          each-count (omega arith)
          (each_append (share-each p i (suc i) c v A one (omega arith) (omega arith) (omega arith) (λ j k. K j (omega arith)) a)
          (pairs-each (p + c) (suc i) c (λ e. after c (v e)) (λ e. refresh_share q i (suc i) c (v e) (A e)) (omega arith) (omega arith) (omega arith) (λ j k. K (c + j) (omega arith))
          (share-kept i (suc i) c v A (omega arith) (omega arith) (λ j k. K j (omega arith)) a)))

      bit-each : Each (bit_count n) (λ e. bit_steps q bit n (b e) (w e) (totals e))
      unfolding convert_steps
      bit-each =
          each-count (bit_parts n)
          (each_append
          (each_append (each-across round_count rounds_count (λ j e. round_steps q bit (b e) (w e) j) (unfold pairs in refl) rounds_next n round-each)
          (pairs-each 1 0 n (λ e. after (pairs n) (w e)) (λ e. convert q n (b e) (w e)) (omega arith) (omega arith) (omega arith) (λ j k A i m a h l. R.transferred A i m j a h l k) R.unrefreshed))
          (each-share n _ R.total))

    -- ---- a string, and a sample

    string_each : (k first : ℕ) (x w : E → ℕ → ℕ) (totals : E → ℕ → ℕ → ℕ)
        → ((t : ℕ) → t < k → BitRecords (first + t) (λ e. bits_at (x e) t) (λ e. after (t * bit_words n) (w e)) (λ e. totals e (suc t)))
        → Each (k * bit_count n) (λ e. string_steps q n k first (x e) (w e) (totals e))
    unfolding string_steps
    string_each k first x w totals R = each_times (bit_count n) k _ (λ t l. bit-each _ _ _ _ (R t l))

    pub sample-each : (k : ℕ) (x y w : E → ℕ → ℕ)
        → ((t : ℕ) → t < k → BitRecords (0 + t) (λ e. bits_at (x e) t) (λ e. after (t * bit_words n) (w e)) (λ e. string_share q n (suc t) (x e) (w e)))
        → ((t : ℕ) → t < k → BitRecords (k + t) (λ e. bits_at (y e) t) (λ e. after (t * bit_words n) (after (k * bit_words n) (w e))) (λ e i. sub q (string_share q n k (x e) (w e) i) (string_share q n (suc t) (y e) (after (k * bit_words n) (w e)) i)))
        → Each (record_count n k) (λ e. sample_steps q n k (x e) (y e) (w e))
    unfolding sample_steps
    sample-each k x y w X Y = each-count (twice k (bit_count n)) (each_append (string_each k 0 x w _ X) (string_each k k y _ _ Y))
