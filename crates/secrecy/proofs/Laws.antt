-- Laws of one-to-one maps and of runs that cannot be told apart.
use Rattle.std.specs.Prelude.{◌≡◌, refl, List, ◌++◌, ℕ, length, take, drop}
use Rattle.std.proofs.Common.{sym, ap, ◌∙◌, get_or-take, take_at}
use Rattle.std.proofs.Math.Seq.{drop-append_seam}
use Rattle.buffers.specs.Positions.{at}
use Rattle.secrecy.specs.Secrecy.{Full, between, OneToOne, Indistinguishable, AgreeBut}

module _ {T : Type 0} {P : T → Type 0} where
  -- a map that another one undoes, on both sides
  pub undone-one_to_one : {f g : T → T} → ((w : T) → P w → P (f w)) → ((w : T) → P w → P (g w)) → ((w : T) → P w → g (f w) ≡ w) → ((w : T) → P w → f (g w) ≡ w) → OneToOne P f
  undone-one_to_one {f} {g} there back g-f f-g =
      record { full = there; different = λ v w p r e. sym (g-f v p) ∙ ap g e ∙ g-f w r; origin = g; origin-full = back; image = f-g }

  -- what is alike is so in all that follows from it
  pub weaken : {R S : T → T → Type 0} → ((v w : T) → P v → P w → R v w → S v w) → Indistinguishable P R → Indistinguishable P S
  weaken h r =
      record {
        map = r.map;
        one_to_one = r.one_to_one;
        alike = λ w p. h w (r.map w) p (r.one_to_one.full w p) (r.alike w p);
      }

  -- nothing moved
  pub unmoved : Indistinguishable P (λ v w. v ≡ w)
  unmoved = record { map = λ w. w; one_to_one = undone-one_to_one (λ w p. p) (λ w p. p) (λ w p. refl) (λ w p. refl); alike = λ w p. refl }

-- a full list between others
pub between-taken : {q W : ℕ} {ws : List ℕ} → Full q W ws → (before behind : List ℕ) → take W (drop (length before) (between before ws behind)) ≡ ws
between-taken {q} {W} {ws} f before behind = ap (take W) (drop-append_seam before (ws ++ behind)) ∙ take_at ws behind W f.count

-- shares that stand in front of two outputs
pub agree-front : (ℓ n : ℕ) (out out' : List ℕ) {shares shares' : List ℕ} → take n out ≡ shares → take n out' ≡ shares' → AgreeBut ℓ n shares shares' → AgreeBut ℓ n out out'
agree-front ℓ n out out' e e' same i b d =
    sym (get_or-take n out i 0 b) ∙ ap (λ (l : List ℕ). at l i) e ∙ same i b d ∙ sym (ap (λ (l : List ℕ). at l i) e') ∙ get_or-take n out' i 0 b
