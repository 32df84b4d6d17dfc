-- The sum less q, modulo q, is the sum modulo q.
use Rattle.std.proofs.Common.{◌∙◌}
use Rattle.residue.proofs.Laws.{sub-modulus}
use Rattle.residue.proofs.add.Goals as goal

pub returns : goal.returns
returns c = c.sub.ensures ∙ sub-modulus c.args.q c.args.a c.args.b
