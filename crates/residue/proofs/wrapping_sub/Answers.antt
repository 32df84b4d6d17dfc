-- The answer is right by proofs/Wrapped.antt.
use Rattle.std.proofs.Common.{◌∙◌}
use Rattle.std.proofs.lemmas.Nat.{and_mask}
use Rattle.residue.proofs.Wrapped.{value}
use Rattle.residue.proofs.wrapping_sub.Goals as goal

pub returns : goal.returns
returns c = and_mask _ 32 ∙ value c.args.a c.args.b c.args.q c.requires.1 c.requires.3 c.args.swap c.requires.0 c.requires.2
