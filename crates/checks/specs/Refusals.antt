-- Where a refusal comes from.
use Rattle.std.specs.Prelude.{◌≡◌, refl, Bool, true, false, ◌&&◌, List, [], ◌∷◌, ◌++◌, ◌≢◌, ℕ}
use Rattle.std.proofs.Common.{sym, ◌∙◌}
use Rattle.checks.specs.Checks.{Check, Verdict, accepted, refused, verdict, checked}
use Rattle.checks.specs.Laws.{and_true, not_both, pass, fail, pass_all, accepted-holds, passes-part, refuses}

-- what every check's number and position pass, a refusal's pass
abbrev pub All : (ℕ → ℕ → Bool) → List Check → Bool
All test [] = true
All test (c ∷ cs) = test c.code c.position && All test cs

pub refusal_passes : (test : ℕ → ℕ → Bool) {A : Type 0} (a : A) (code position : ℕ) (cs : List Check) → All test cs ≡ true → verdict cs a ≡ refused code position → test code position ≡ true
refusal_passes test a code position [] b e = absurd (not_both (sym (pass_all a) ∙ e))
refusal_passes test {A} a code position (c ∷ cs) b e = go (refusal_passes test a code position cs) c.holds refl (and_true (test c.code c.position) (All test cs) b)
  where
    go : (All test cs ≡ true → verdict cs a ≡ refused code position → test code position ≡ true) → (t : Bool) → c.holds ≡ t → (test c.code c.position ≡ true) × (All test cs ≡ true) → test code position ≡ true
    go ih true h s = ih s.1 (sym (pass a c cs h) ∙ e)
    go ih false h s =
        let d : ◌≡◌ {A = Verdict A} (refused c.code c.position) (refused code position) = sym (fail a c cs h) ∙ e in
        let i : code ≡ c.code = cc in
        let j : position ≡ c.position = cc in
        rw (i, j) s.0

-- a refusal that does not come from the last check does not depend on it
pub refuses-before : {A : Type 0} (a : A) (code position : ℕ) (cs : List Check) (c d : Check) → code ≢ c.code → verdict (cs ++ (c ∷ [])) a ≡ refused code position → verdict (cs ++ (d ∷ [])) a ≡ refused code position
refuses-before {A} a code position cs c d other e = go (checked cs) refl
  where
    last : (t : Bool) → c.holds ≡ t → verdict (c ∷ []) a ≡ refused code position → ⊥
    last true h f = not_both (sym (pass_all a) ∙ sym (pass a c [] h) ∙ f)
    last false h f =
        let g : ◌≡◌ {A = Verdict A} (refused c.code c.position) (refused code position) = sym (fail a c [] h) ∙ f in
        let i : code ≡ c.code = cc in
        other i

    go : (v : Verdict Unit) → checked cs ≡ v → verdict (cs ++ (d ∷ [])) a ≡ refused code position
    go (accepted u) h = absurd (last c.holds refl (sym (passes-part a cs (c ∷ []) (accepted-holds tt u cs h)) ∙ e))
    go (refused f p) h = refuses tt a f p cs (d ∷ []) h ∙ sym (refuses tt a f p cs (c ∷ []) h) ∙ e
