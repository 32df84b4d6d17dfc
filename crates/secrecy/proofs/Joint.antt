-- What is drawn in parts, one after the other: the map of a later part may depend on the earlier ones, in both runs.
use Rattle.std.specs.Prelude.{◌≡◌}
use Rattle.secrecy.specs.Secrecy.{OneToOne, Indistinguishable}
use Rattle.secrecy.proofs.Laws.{undone-one_to_one}

-- the origin of an image
origin-map : {T : Type 0} {P : T → Type 0} {f : T → T} (o : OneToOne P f) (w : T) → P w → o.origin (f w) ≡ w
origin-map {f = f} o w p = o.different _ _ (o.origin-full (f w) (o.full w p)) p (o.image (f w) (o.full w p))

-- ---- two parts

module _ {T U : Type 0} {P : T → Type 0} {Q : U → Type 0} {R : T → T → Type 0} {S : T → T → U → U → Type 0} (r : Indistinguishable P R) (s : (v w : T) → Indistinguishable Q (S v w)) where
  abbrev Both : T × U → Type 0
  Both p = P p.0 × Q p.1

  there : T × U → T × U
  there p = (r.map p.0, (s p.0 (r.map p.0)).map p.1)

  back : T × U → T × U
  back p = (r.one_to_one.origin p.0, (s (r.one_to_one.origin p.0) p.0).one_to_one.origin p.1)

  there-full : (p : T × U) → Both p → Both (there p)
  unfolding there
  there-full p f = (r.one_to_one.full _ f.0, (s _ _).one_to_one.full _ f.1)

  back_full : (p : T × U) → Both p → Both (back p)
  unfolding back
  back_full p f = (r.one_to_one.origin-full _ f.0, (s _ _).one_to_one.origin-full _ f.1)

  there-undone : (p : T × U) → Both p → back (there p) ≡ p
  unfolding there back
  there-undone p f = rw (origin-map r.one_to_one p.0 f.0, origin-map (s p.0 (r.map p.0)).one_to_one p.1 f.1)

  back-undone : (p : T × U) → Both p → there (back p) ≡ p
  unfolding there back
  back-undone p f = rw (r.one_to_one.image p.0 f.0, (s (r.one_to_one.origin p.0) p.0).one_to_one.image p.1 f.1)

  pub joint : Indistinguishable (λ (p : T × U). P p.0 × Q p.1) (λ p t. R p.0 t.0 × S p.0 t.0 p.1 t.1)
  joint =
      record {
        map = there;
        one_to_one = undone-one_to_one there-full back_full there-undone back-undone;
        alike = λ p f. unfold there in (r.alike p.0 f.0, (s _ _).alike p.1 f.1);
      }

-- ---- another form of what is drawn

pub record Form {T U : Type 0} (P : T → Type 0) (Q : U → Type 0) (to : T → U) (from : U → T) : Type 0 where
  pub to_full : (w : T) → P w → Q (to w)
  pub from_full : (u : U) → Q u → P (from u)
  pub from_to : (w : T) → P w → from (to w) ≡ w
  pub to_from : (u : U) → Q u → to (from u) ≡ u

pub reformed : {T U : Type 0} {P : T → Type 0} {Q : U → Type 0} {to : T → U} {from : U → T} {R : U → U → Type 0} → Form P Q to from → Indistinguishable Q R → Indistinguishable P (λ v w. R (to v) (to w))
reformed {to = to} {from = from} {R = R} F r =
    let o = r.one_to_one in
    record {
      map = λ w. from (r.map (to w));
      one_to_one = undone-one_to_one
          (λ w p. F.from_full _ (o.full _ (F.to_full w p)))
          (λ w p. F.from_full _ (o.origin-full _ (F.to_full w p)))
          (λ w p. rw (F.to_from (r.map (to w)) (o.full _ (F.to_full w p)), origin-map o (to w) (F.to_full w p)) (F.from_to w p))
          (λ w p. rw (F.to_from (o.origin (to w)) (o.origin-full _ (F.to_full w p)), o.image (to w) (F.to_full w p)) (F.from_to w p));
      alike = λ w p. rw (F.to_from (r.map (to w)) (o.full _ (F.to_full w p))) (r.alike (to w) (F.to_full w p));
    }
