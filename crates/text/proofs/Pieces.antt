-- A line of four pieces, written one behind the other, where there is room for all; and what is left of a writer.
use Rattle.std.proofs.Common.{◌≡◌, ◌∙◌, List, ℕ, ◌++◌, arith, length-append}
use Rattle.text.specs.Text.{Wrote, HasRoom, Written}
use Rattle.text.specs.Laws.{room_behind, written_then}
use Rattle.text.specs.declared.Writer.{Writer}

pub record Pieces (line p q r s : List ℕ) : Type 0 where
  pub split : line ≡ p ++ (q ++ (r ++ s))

module _ (w : Writer) {line p q r s : List ℕ} (e : Pieces line p q r s) where
  whole : HasRoom w line → HasRoom w (p ++ (q ++ (r ++ s)))
  whole h = rw e.split at h

  pub first : HasRoom w line → HasRoom w p
  first h = omega (arith, whole h, length-append p (q ++ (r ++ s)))

  module _ {t : Writer} (a : Written w p t) where
    left1 : HasRoom w line → HasRoom t (q ++ (r ++ s))
    left1 h = room_behind p (q ++ (r ++ s)) (whole h) a

    pub second : HasRoom w line → HasRoom t q
    second h = omega (arith, left1 h, length-append q (r ++ s))

    module _ {u : Writer} (b : Written t q u) where
      left2 : HasRoom w line → HasRoom u (r ++ s)
      left2 h = room_behind q (r ++ s) (left1 h) b

      pub third : HasRoom w line → HasRoom u r
      third h = omega (arith, left2 h, length-append r s)

      module _ {v : Writer} (d : Written u r v) where
        pub fourth : HasRoom w line → HasRoom v s
        fourth h = room_behind r s (left2 h) d

        pub all : {x : Writer} → Written v s x → Written w line x
        all g = rw e.split (written_then a (written_then b (written_then d g)))

-- what was left in a text that a writer held
pub left_behind : {w u : Writer} {piece after : List ℕ} → Written w piece u → after ≡ u.text.now → Wrote w.text.now w.end piece after u.end
left_behind h e = (e ∙ h.wrote.0, h.wrote.1)
