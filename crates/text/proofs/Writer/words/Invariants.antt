-- The words before this one are written.
use Rattle.std.proofs.Common.{map, take}
use Rattle.text.specs.Text.{decimal, spaced, Written}
use Rattle.text.proofs.Writer.words.Given as goal

abbrev pub invariant-loop-word : goal.invariant-loop-word
invariant-loop-word l = Written l.fn.self (spaced (map decimal (take l.word-index l.words))) l.self
