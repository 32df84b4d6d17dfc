-- Facts of the code's steps.
use mathlib.Core.Path.{◌≡◌, sym, ap, ap₂, subst⁻¹, ◌∙◌, fun_ext}
use mathlib.Core.List.{List, [], ◌∷◌, ◌++◌}
use Prim.Native.Nat.{ℕ, suc, ◌+◌, ◌<◌}
use native.Mathlib.Nat as N
use native.Mathlib.Numerals.{add-one}
use native.Mathlib.Omega.{arith}
use lib.ListN.{length, set, length-set}
use Rattle.residue.specs.Residue.{add, sub}
use Rattle.buffers.specs.Positions.{at, after, Below}
use Rattle.buffers.specs.PositionLaws.{after-after, set_agrees}
use Rattle.conversion.specs.Conversion.{transfer, refresh_share, refresh_from}
use Rattle.conversion.proofs.ZeroSharing.{transfer_gains, transfer_loses, transfer_keeps, transfer-below, refresh_share-below}
use Rattle.records.specs.Records.{Step, step, Fits, Recorded}
use Rattle.records.specs.Laws.{recorded_then, fits-first, Left, left-next, left-none}
use Rattle.steps.specs.Steps.{pair_steps, refresh_share_steps, refresh_steps}

-- ---- one pair: both shares are stored, and both records written

module _ (q i m r : ℕ) (l : List ℕ) (v u : ℕ) (h : i < m) (e : v ≡ add q (at l i) r) (d : u ≡ sub q (at l m) r) where
  gained : v ≡ transfer q i m r (at l) i
  gained = e ∙ sym (transfer_gains q i m r (at l))

  lost : u ≡ transfer q i m r (at l) m
  lost = d ∙ sym (transfer_loses q i m r (at l) (omega arith))

  pub pair-stored : m < length l → at (set (set l i v) m u) ≡ transfer q i m r (at l)
  pair-stored k =
      let f = transfer q i m r (at l) in
      let n = length-set l i v in
      fun_ext (λ s. set_agrees (set l i v) m u f (omega arith) lost s (λ x. set_agrees l i v f (omega arith) gained s (λ y. sym (transfer_keeps q i m r (at l) s y x))))

  pub pair_recorded : (bit p : ℕ) (before : List ℕ) (a : ℕ) (between : List ℕ) (b : ℕ) (behind : List ℕ) (c : ℕ)
      → Recorded before a (step bit p (i + 1) 4 v ∷ []) between b → Recorded between b (step bit p (m + 1) 4 u ∷ []) behind c → Recorded before a (pair_steps bit p i m (transfer q i m r (at l))) behind c
  pair_recorded bit p before a between b behind c x y =
      rw (← gained, ← lost, ← add-one i, ← add-one m) (recorded_then before a (step bit p (i + 1) 4 v ∷ []) (step bit p (m + 1) 4 u ∷ []) x y)

-- ---- the pairs of share i with the shares from m on: the first, pair p, with the word at o, and those behind it

module _ (q bit : ℕ) (w A : ℕ → ℕ) (p i m c o : ℕ) where
  abbrev paired : ℕ → ℕ → ℕ
  paired r = transfer q i m r A

  words : (λ j. w (o + suc j)) ≡ after (suc o) w
  words = fun_ext (λ j. ap w (omega arith))

  pairs_next : refresh_share q i m (suc c) (after o w) A ≡ refresh_share q i (suc m) c (after (suc o) w) (paired (w o))
  unfolding refresh_share
  pairs_next = ap₂ (λ (v : ℕ → ℕ) (r : ℕ). refresh_share q i (suc m) c v (paired r)) words (ap w (N.add-zero o))

  pair-steps : refresh_share_steps q bit p i m (suc c) (after o w) A ≡ pair_steps bit p i m (paired (w o)) ++ refresh_share_steps q bit (suc p) i (suc m) c (after (suc o) w) (paired (w o))
  unfolding refresh_share_steps
  pair-steps = ap₂ (λ (v : ℕ → ℕ) (r : ℕ). pair_steps bit p i m (paired r) ++ refresh_share_steps q bit (suc p) i (suc m) c v (paired r)) words (ap w (N.add-zero o))

-- c of them are left: they make of the list the wanted shares, and their records are left
pub record PairsLeft (q n bit : ℕ) (w wanted : ℕ → ℕ) (before : List ℕ) (start : ℕ) (whole : List Step) (p i m c o : ℕ) (list records : List ℕ) (end : ℕ) : Type 0 where
  pub eight : length list ≡ 8
  pub below : Below q n (at list)
  pub shares : refresh_share q i m c (after o w) (at list) ≡ wanted
  pub left : Left before start whole records end (refresh_share_steps q bit p i m c (after o w) (at list))

module _ {q n bit : ℕ} {w T : ℕ → ℕ} {before : List ℕ} {start : ℕ} {whole : List Step} {p i m all o : ℕ} {list records : List ℕ} {end : ℕ}
    (c : ℕ) (e : all ≡ suc c) (U : PairsLeft q n bit w T before start whole p i m all o list records end) where
  pub pair_fits : Fits records end (pair_steps bit p i m (transfer q i m (w o) (at list)))
  pair_fits = fits-first records end (pair_steps bit p i m (transfer q i m (w o) (at list))) (refresh_share_steps q bit (suc p) i (suc m) c (after (suc o) w) (transfer q i m (w o) (at list))) (rw (e, pair-steps) at U.left.room)

  pub pair-done : 0 < q → (list' : List ℕ) {records' : List ℕ} {end' : ℕ} → length list' ≡ 8 → at list' ≡ transfer q i m (w o) (at list) → Recorded records end (pair_steps bit p i m (transfer q i m (w o) (at list))) records' end'
      → (p' m' o' : ℕ) → p' ≡ suc p → m' ≡ suc m → o' ≡ suc o → PairsLeft q n bit w T before start whole p' i m' c o' list' records' end'
  pair-done pos list' {records'} {end'} l a d p' m' o' x y z =
      let A = transfer q i m (w o) (at list) in
      let rest : (ℕ → ℕ) → List Step = refresh_share_steps q bit (suc p) i (suc m) c (after (suc o) w) in
      rw (x, y, z) (record {
        eight = l;
        below = subst⁻¹ (Below q n) a (transfer-below q pos n i m (w o) (at list) U.below);
        shares = ap (refresh_share q i (suc m) c (after (suc o) w)) a ∙ sym (pairs_next q bit w (at list) p i m c o) ∙ rw e at U.shares;
        left = subst⁻¹ (λ (B : ℕ → ℕ). Left before start whole records' end' (rest B)) a (left-next before start whole records end (pair_steps bit p i m A) (rest A) (rw (e, pair-steps) at U.left) d);
      })

pub pairs-all : {q n bit : ℕ} {w T : ℕ → ℕ} {before : List ℕ} {start : ℕ} {whole : List Step} {p i m c o : ℕ} {list records : List ℕ} {end : ℕ}
    → PairsLeft q n bit w T before start whole p i m c o list records end → c ≡ 0 → (length list ≡ 8) × (at list ≡ T) × Recorded before start whole records end
unfolding refresh_share refresh_share_steps
pairs-all U e = (U.eight, rw e at U.shares, left-none _ _ _ _ _ (rw e at U.left))

-- ---- the pairs of the shares from i on, the first of them pair p, with the words from o on: those of share i, and those behind them

module _ (q bit : ℕ) (w A : ℕ → ℕ) (p i c o : ℕ) where
  abbrev refreshed : ℕ → ℕ
  refreshed = refresh_share q i (suc i) c (after o w) A

  shares-next : refresh_from q i (suc c) (after o w) A ≡ refresh_from q (suc i) c (after (o + c) w) refreshed
  unfolding refresh_from
  shares-next = ap (λ (v : ℕ → ℕ). refresh_from q (suc i) c v refreshed) (after-after o c w)

  share-steps : refresh_steps q bit p i (suc c) (after o w) A ≡ refresh_share_steps q bit p i (suc i) c (after o w) A ++ refresh_steps q bit (p + c) (suc i) c (after (o + c) w) refreshed
  unfolding refresh_steps
  share-steps = ap (λ (v : ℕ → ℕ). refresh_share_steps q bit p i (suc i) c (after o w) A ++ refresh_steps q bit (p + c) (suc i) c v refreshed) (after-after o c w)

-- those of c shares are left
pub record SharesLeft (q n bit : ℕ) (w wanted : ℕ → ℕ) (before : List ℕ) (start : ℕ) (whole : List Step) (p i c o : ℕ) (list records : List ℕ) (end : ℕ) : Type 0 where
  pub eight : length list ≡ 8
  pub below : Below q n (at list)
  pub shares : refresh_from q i c (after o w) (at list) ≡ wanted
  pub left : Left before start whole records end (refresh_steps q bit p i c (after o w) (at list))

module _ {q n bit : ℕ} {w T : ℕ → ℕ} {before : List ℕ} {start : ℕ} {whole : List Step} {p i all o : ℕ} {list records : List ℕ} {end : ℕ}
    (c : ℕ) (e : all ≡ suc c) (U : SharesLeft q n bit w T before start whole p i all o list records end) (i' : ℕ) (y : i' ≡ suc i) where
  pub share-fits : Fits records end (refresh_share_steps q bit p i i' c (after o w) (at list))
  share-fits =
      rw y (fits-first records end (refresh_share_steps q bit p i (suc i) c (after o w) (at list)) (refresh_steps q bit (p + c) (suc i) c (after (o + c) w) (refresh_share q i (suc i) c (after o w) (at list))) (rw (e, share-steps) at U.left.room))

  pub share-done : 0 < q → (list' : List ℕ) {records' : List ℕ} {end' : ℕ} → length list' ≡ 8 → at list' ≡ refresh_share q i i' c (after o w) (at list) → Recorded records end (refresh_share_steps q bit p i i' c (after o w) (at list)) records' end'
      → (p' o' : ℕ) → p' ≡ p + c → o' ≡ o + c → SharesLeft q n bit w T before start whole p' i' c o' list' records' end'
  share-done pos list' {records'} {end'} l a d p' o' x z =
      let A = refresh_share q i (suc i) c (after o w) (at list) in
      let b : at list' ≡ A = rw y at a in
      let rest : (ℕ → ℕ) → List Step = refresh_steps q bit (p + c) (suc i) c (after (o + c) w) in
      rw (x, y, z) (record {
        eight = l;
        below = subst⁻¹ (Below q n) b (refresh_share-below q pos n i (suc i) c (after o w) (at list) U.below);
        shares = ap (refresh_from q (suc i) c (after (o + c) w)) b ∙ sym (shares-next q bit w (at list) p i c o) ∙ rw e at U.shares;
        left = subst⁻¹ (λ (B : ℕ → ℕ). Left before start whole records' end' (rest B)) b (left-next before start whole records end (refresh_share_steps q bit p i (suc i) c (after o w) (at list)) (rest A) (rw (e, share-steps) at U.left) (rw y at d));
      })

pub shares-all : {q n bit : ℕ} {w T : ℕ → ℕ} {before : List ℕ} {start : ℕ} {whole : List Step} {p i c o : ℕ} {list records : List ℕ} {end : ℕ}
    → SharesLeft q n bit w T before start whole p i c o list records end → c ≡ 0 → (length list ≡ 8) × (at list ≡ T) × Recorded before start whole records end
unfolding refresh_from refresh_steps
shares-all U e = (U.eight, rw e at U.shares, left-none _ _ _ _ _ (rw e at U.left))
