-- Behind the checks the sum is of a list of residues that is not empty.
use mathlib.Core.Path.{◌≡◌}
use Prim.Native.Nat.{◌≤◌}
use native.Mathlib.Omega.{arith}
use borrow.Author.Tests.{leb-true, eqb-true}
use lib.ListN.{length}
use Rattle.checks.specs.Laws.{within_true, none-each-below}
use Rattle.checks.proofs.Settles.{checks-hold}
use Rattle.masking.proofs.open_residue.Goals as goal

pub sum_all-requires : goal.sum_all-requires
sum_all-requires c =
    let a = c.args in
    let h = checks-hold _ _ c.check_open_residue.ensures c.in_ok-check_open_residue.was in
    let e : length a.shares.now ≡ a.n = eqb-true _ _ h.1.1.0 in
    let m : 3 ≤ a.q = leb-true _ _ h.1.0 in
    (omega (arith, within_true 2 8 a.n h.0), omega arith, omega arith, none-each-below a.q a.shares.now 0 h.1.1.1.0)
