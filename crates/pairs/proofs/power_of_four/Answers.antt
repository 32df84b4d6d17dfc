-- 4 ^ k is 2 ^ 2k, which 64 bits hold.
use mathlib.Core.Path.{◌≡◌, ap, ◌∙◌}
use Prim.Native.Nat.{ℕ, ◌+◌, ◌*◌, ◌^◌, ◌<◌}
use native.Mathlib.Nat.{mod-eq_of_lt}
use native.Mathlib.Omega.{arith}
use lib.Pow.{pow-add}
use Rattle.pairs.specs.PairLaws.{square_four, power_lt}
use Rattle.pairs.proofs.power_of_four.Goals as goal

pub returns : goal.returns
returns c =
    let k = c.args.k in
    let d : 2 * k ≡ k + k = omega arith in
    let e : 2 ^ (2 * k) ≡ 4 ^ k = ap (λ (m : ℕ). 2 ^ m) d ∙ pow-add 2 k k ∙ square_four k in
    let l : 1 * 2 ^ (2 * k) < 18446744073709551616 = omega (arith, power_lt k c.requires) in
    mod-eq_of_lt l ∙ omega arith
