-- Words in m blocks, one behind the other: two runs over each block that cannot be told apart cannot be told apart together.
use Rattle.std.specs.Prelude.{◌≡◌, ℕ, zero, suc, ◌+◌, ◌*◌, ◌<◌, take, drop}
use Rattle.std.proofs.Math.Path.{sym, ap, ap₂}
use Rattle.std.proofs.Common.{subst, ◌∙◌, suc-le-suc, not-suc-le-zero, le_of_suc-le-suc, arith, length-append, length-take, length-drop}
use mathlib.Core.List.{List, ◌++◌}
use Rattle.std.proofs.Math.ListN.{take-append-drop}
use Rattle.std.proofs.Math.Seq.{take_at, drop_at}
use Rattle.residue.proofs.Sum.{each-below-take, each-below-drop, each-below-append}
use Rattle.buffers.specs.Positions.{block}
use Rattle.buffers.specs.Blocks.{block-first, block-next}
use Rattle.secrecy.specs.Secrecy.{Full, OneToOne, Indistinguishable}
use Rattle.secrecy.proofs.Laws.{weaken, unmoved}

-- ---- two blocks

module _ (q A B : ℕ) where
  full-take : {ws : List ℕ} → Full q (A + B) ws → Full q A (take A ws)
  full-take {ws} h = record { count = length-take A ws ∙ omega (arith, h.count); below = each-below-take _ A ws h.below }

  full-drop : {ws : List ℕ} → Full q (A + B) ws → Full q B (drop A ws)
  full-drop {ws} h = record { count = length-drop A ws ∙ omega (arith, h.count); below = each-below-drop _ A ws h.below }

  full-append : {us vs : List ℕ} → Full q A us → Full q B vs → Full q (A + B) (us ++ vs)
  full-append {us} {vs} h l = record { count = length-append us vs ∙ omega (arith, h.count, l.count); below = each-below-append _ us vs h.below l.below }

  module _ {R S : List ℕ → List ℕ → Type 0} (r : Indistinguishable (Full q A) R) (s : Indistinguishable (Full q B) S) where
    -- each block by its own map
    both : List ℕ → List ℕ
    both ws = r.map (take A ws) ++ s.map (drop A ws)

    front : (ws : List ℕ) → Full q (A + B) ws → take A (both ws) ≡ r.map (take A ws)
    unfolding both
    front ws h = take_at (r.map (take A ws)) (s.map (drop A ws)) A (r.one_to_one.full (take A ws) (full-take h)).count

    rest : (ws : List ℕ) → Full q (A + B) ws → drop A (both ws) ≡ s.map (drop A ws)
    unfolding both
    rest ws h = drop_at (r.map (take A ws)) (s.map (drop A ws)) A (r.one_to_one.full (take A ws) (full-take h)).count

    both-one_to_one : OneToOne (Full q (A + B)) both
    unfolding both
    both-one_to_one =
        record {
          full = λ ws h. full-append (r.one_to_one.full (take A ws) (full-take h)) (s.one_to_one.full (drop A ws) (full-drop h));
          different = λ us vs h l e.
              let f = r.one_to_one.different (take A us) (take A vs) (full-take h) (full-take l) (sym (front us h) ∙ ap (take A) e ∙ front vs l) in
              let g = s.one_to_one.different (drop A us) (drop A vs) (full-drop h) (full-drop l) (sym (rest us h) ∙ ap (drop A) e ∙ rest vs l) in
              sym (take-append-drop A us) ∙ ap₂ ◌++◌ f g ∙ take-append-drop A vs;
          origin = λ ws. r.one_to_one.origin (take A ws) ++ s.one_to_one.origin (drop A ws);
          origin-full = λ ws h. full-append (r.one_to_one.origin-full (take A ws) (full-take h)) (s.one_to_one.origin-full (drop A ws) (full-drop h));
          image = λ ws h.
              let u = (r.one_to_one.origin-full (take A ws) (full-take h)).count in
              let f = take_at (r.one_to_one.origin (take A ws)) (s.one_to_one.origin (drop A ws)) A u in
              let g = drop_at (r.one_to_one.origin (take A ws)) (s.one_to_one.origin (drop A ws)) A u in
              rw (f, g, r.one_to_one.image (take A ws) (full-take h), s.one_to_one.image (drop A ws) (full-drop h)) (take-append-drop A ws);
        }

    both-blocks : Indistinguishable (Full q (A + B)) (λ v w. R (take A v) (take A w) × S (drop A v) (drop A w))
    both-blocks =
        record {
          map = both;
          one_to_one = both-one_to_one;
          alike = λ ws h. (rw (front ws h) (r.alike (take A ws) (full-take h)), rw (rest ws h) (s.alike (drop A ws) (full-drop h)));
        }

-- ---- m blocks of B words

-- alike in each of the blocks
abbrev pub InBlocks : ℕ → ℕ → (ℕ → List ℕ → List ℕ → Type 0) → List ℕ → List ℕ → Type 0
InBlocks m B R v w = (t : ℕ) → t < m → R t (block B t v) (block B t w)

pub blocks : (q B m : ℕ) (R : ℕ → List ℕ → List ℕ → Type 0) → ((t : ℕ) → t < m → Indistinguishable (Full q B) (R t)) → Indistinguishable (Full q (m * B)) (InBlocks m B R)
blocks q B zero R r = weaken (λ v w f g e t l. absurd (not-suc-le-zero l)) unmoved
blocks q B (suc m) R r =
    let e : B + m * B ≡ suc m * B = omega arith in
    subst (λ (W : ℕ). Indistinguishable (Full q W) (InBlocks (suc m) B R)) e
    (weaken joined (both-blocks q B (m * B) (r zero (omega arith)) (blocks q B m (λ t. R (suc t)) (λ t l. r (suc t) (suc-le-suc l)))))
  where
    joined : (v w : List ℕ) → Full q (B + m * B) v → Full q (B + m * B) w → R zero (take B v) (take B w) × InBlocks m B (λ t. R (suc t)) (drop B v) (drop B w) → InBlocks (suc m) B R v w
    joined v w f g s zero l = rw (block-first B v, block-first B w) s.0
    joined v w f g s (suc t) l = rw (block-next B v t, block-next B w t) (s.1 t (le_of_suc-le-suc l))
