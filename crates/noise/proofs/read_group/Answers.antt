-- Two bytes, or three.
use mathlib.Core.Path.{◌≡◌}
use native.Mathlib.Omega.{arith}
use Rattle.noise.proofs.Groups.{two_bytes, three-bytes}
use Rattle.noise.proofs.read_group.Goals as goal

pub returns-then-k-eq2 : goal.returns-then-k-eq2
returns-then-k-eq2 c =
    let a = c.args in
    let e = two_bytes a.bytes.now (λ i. omega (arith, c.type_inv.bytes i)) a.start in
    rw c.if-k-eq2.true (omega arith)

pub returns-else-k-eq2 : goal.returns-else-k-eq2
returns-else-k-eq2 c =
    let a = c.args in
    let k : a.k ≡ 3 = omega arith in
    let e = three-bytes a.bytes.now (λ i. omega (arith, c.type_inv.bytes i)) a.start in
    rw k (omega arith)
