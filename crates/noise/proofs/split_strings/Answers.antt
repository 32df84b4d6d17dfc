use mathlib.Core.Path.{◌≡◌, ap, ◌∙◌}
use mathlib.Core.List.{List}
use Prim.Native.Nat.{ℕ, ◌*◌, ◌≤◌}
use native.Mathlib.Omega.{arith}
use lib.ListN.{length}
use Rattle.buffers.specs.Overwrite.{overwrite}
use Rattle.buffers.specs.Positions.{rows}
use Rattle.buffers.specs.Columns.{columns, columns-none, columns-next, columns-all}
use Rattle.noise.proofs.split_strings.Goals as goal

whole : (n i : ℕ) (f : ℕ → ℕ → ℕ) (l s : List ℕ) → 256 * n ≤ length l → i ≡ n → s ≡ columns 256 n f i l → s ≡ overwrite l 0 (rows 256 n f)
whole n i f l s h e d = d ∙ ap (λ (j : ℕ). columns 256 n f j l) e ∙ columns-all 256 n f l h

pub loop-i-init : goal.loop-i-init
loop-i-init c = (omega arith, columns-none _ _ _ _, columns-none _ _ _ _)

pub loop-i-preserved : goal.loop-i-preserved
loop-i-preserved c =
    let a = c.args in
    let l = c.loop-i in
    let e = c.split_string.ensures in
    (omega arith, columns-next 256 a.n _ a.x.now l.i l.x _ l.invariant.1 e.0, columns-next 256 a.n _ a.y.now l.i l.y _ l.invariant.2 e.1)

pub returns : goal.returns
returns c =
    let l = c.loop-i in
    let e : l.i ≡ c.args.n = omega arith in
    (whole c.args.n l.i _ c.args.x.now l.x c.requires.4 e l.invariant.1, whole c.args.n l.i _ c.args.y.now l.y c.requires.5 e l.invariant.2)
