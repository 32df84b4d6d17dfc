-- What it means that outputs tell nothing of a secret (document 01: 'The rule about n − 1 shares').
use Rattle.std.specs.Prelude.{◌≡◌, List, ◌++◌, ◌≢◌, ℕ, ◌<◌, length}
use Rattle.residue.specs.Residue.{EachBelow}
use Rattle.buffers.specs.Positions.{at}

-- A full list: exactly W words, each below q.
pub record Full (q W : ℕ) (ws : List ℕ) : Type 0 where
  pub count : length ws ≡ W
  pub below : EachBelow q ws

-- The words of a call that starts behind `before`: a list of its own stands between others.
abbrev pub between : List ℕ → List ℕ → List ℕ → List ℕ
between before ws behind = before ++ (ws ++ behind)

-- A one-to-one map of the full lists (or whatever else P tells) onto themselves: the image of a full list is full, different ones have
-- different images, and every full list is the image of one.
pub record OneToOne {T : Type 0} (P : T → Type 0) (f : T → T) : Type 0 where
  pub full : (w : T) → P w → P (f w)
  pub different : (v w : T) → P v → P w → f v ≡ f w → v ≡ w
  pub origin : T → T
  pub origin-full : (w : T) → P w → P (origin w)
  pub image : (w : T) → P w → f (origin w) ≡ w

-- Two runs cannot be told apart: some one-to-one map, chosen before the words, takes every full list v to one, w, such that the one run
-- on v and the other on w are alike. So where the words are drawn evenly, whatever is the same in runs that are alike comes equally often.
pub record Indistinguishable {T : Type 0} (P : T → Type 0) (Alike : T → T → Type 0) : Type 0 where
  pub map : T → T
  pub one_to_one : OneToOne P map
  pub alike : (w : T) → P w → Alike w (map w)

-- Alike in all outputs that are seen; what is left out may differ.
abbrev pub AlikeIn : {T I A : Type 0} → (I → Type 0) → (T → I → A) → (T → I → A) → T → T → Type 0
AlikeIn {I = I} Seen one other v w = (i : I) → Seen i → one v i ≡ other w i

-- Two outputs that agree in each of the first n shares but ℓ.
abbrev pub AgreeBut : ℕ → ℕ → List ℕ → List ℕ → Type 0
AgreeBut ℓ n out out' = (i : ℕ) → i < n → i ≢ ℓ → at out i ≡ at out' i
