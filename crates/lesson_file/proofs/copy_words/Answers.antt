use mathlib.Core.Path.{refl, ◌∙◌}
use native.Mathlib.Omega.{arith}
use lib.ListN.{length-set}
use Rattle.lesson_file.specs.RecordLaws.{words-none, words-next, words-all}
use Rattle.lesson_file.proofs.copy_words.Goals as goal

pub loop-i-init : goal.loop-i-init
loop-i-init c = (omega arith, words-none _ _ _, refl)

pub loop-i-preserved : goal.loop-i-preserved
loop-i-preserved c =
    let s = c.args in
    let l = c.loop-i in
    (omega arith, words-next _ _ s.words.now l.i _ _ l.invariant.1 (c.from_u16.ensures ∙ c.number_at.ensures) (omega arith), length-set l.words l.i _ ∙ l.invariant.2)

pub returns : goal.returns
returns c = words-all _ _ _ _ _ _ (omega arith) c.loop-i.invariant.1
