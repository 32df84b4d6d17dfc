-- The lists of the round, then their records.
use mathlib.Core.Path.{◌≡◌, refl}
use Prim.Native.Nat.{◌+◌}
use native.Mathlib.Omega.{arith}
use Rattle.buffers.specs.Positions.{at, after}
use Rattle.conversion.specs.Conversion.{extend, xor_share}
use Rattle.conversion.specs.Arrays.{Holds}
use Rattle.steps.specs.Steps.{list_steps, added_steps}
use Rattle.step_rounds.proofs.Steps.{extended_lt, bit_added, lists_added}
use Rattle.step_rounds.proofs.add_round.Goals as goal
use Rattle.step_rounds.proofs.add_round.Goals.{After-xor_bit-list}

list : (c : After-xor_bit-list) → let a = c.args in Holds (a.j + 1) (xor_share a.q a.j (at a.a) (after a.start (at a.words.now)) a.b) c.xor_bit-list.result
list c = bit_added _ _ _ _ _ c.extend-extended.ensures _ _ c.xor_bit-list.ensures

-- the three lists are those of the round
lists : (c : After-xor_bit-list) → let a = c.args in list_steps a.bit a.j a.b (at c.extend-extended.result) (at c.multiply-products.result) (at c.xor_bit-list.result) ≡ added_steps a.q a.bit a.j a.b (extend a.q a.j (at a.a) (after a.start (at a.words.now)))
lists c = lists_added _ _ _ _ _ c.extend-extended.ensures _ _ _ _ c.multiply-products.ensures ((bit_added _ _ _ _ _ c.extend-extended.ensures _ _ c.xor_bit-list.ensures))

pub multiply-products-requires : goal.multiply-products-requires
multiply-products-requires c =
    (omega (arith, c.requires.0), c.requires.1, extended_lt _ _ _ _ _ c.extend-extended.ensures (omega (arith, c.requires.2.large)))

pub xor_bit-list-requires : goal.xor_bit-list-requires
xor_bit-list-requires c =
    (omega arith, omega (arith, c.requires.0), c.requires.1, c.requires.2, extended_lt _ _ _ _ _ c.extend-extended.ensures (omega (arith, c.requires.2.large)))

pub write_round-requires : goal.write_round-requires
write_round-requires c =
    (c.requires.0, omega (arith, c.requires.0, c.extend-extended.ensures.eight), omega (arith, c.requires.0, c.multiply-products.ensures.eight), omega (arith, c.requires.0, c.xor_bit-list.ensures.eight), rw (lists (goal.at.write_round-requires c).After-xor_bit-list) c.requires.5)

pub returns : goal.returns
returns c =
    (list (goal.at.returns c).After-xor_bit-list, refl, rw (lists (goal.at.returns c).After-xor_bit-list) at c.write_round.ensures)
