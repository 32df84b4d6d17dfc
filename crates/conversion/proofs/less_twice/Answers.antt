-- For a bit b, v less twice its product with b is v or its negative.
use mathlib.Core.Path.{◌≡◌, sym, ◌∙◌}
use native.Mathlib.Omega.{arith}
use Rattle.residue.specs.Residue.{sub}
use Rattle.conversion.specs.Conversion.{less_twice}
use Rattle.conversion.proofs.Laws.{less_twice_lt}
use Rattle.conversion.proofs.Steps.{less_twice_cswap}
use Rattle.conversion.proofs.less_twice.Goals as goal
use Rattle.conversion.proofs.less_twice.Goals.{After-cswap_sub}

-- what the subtraction gives
difference : (c : After-cswap_sub) → c.cswap_sub.result ≡ less_twice c.args.q c.args.b (sub c.args.q c.args.a c.args.r)
difference c =
    let s = c.args in
    c.cswap_sub.ensures ∙ rw c.widen.ensures (sym (less_twice_cswap s.q s.a s.r s.b (omega arith) c.requires.2))

pub narrow-requires : goal.narrow-requires
narrow-requires c =
    rw (difference c) (less_twice_lt c.args.q (omega arith) c.args.b _)

pub returns : goal.returns
returns c = c.narrow.ensures ∙ difference (goal.at.returns c).After-cswap_sub
