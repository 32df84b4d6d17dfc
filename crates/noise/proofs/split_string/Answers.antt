use mathlib.Core.Path.{◌≡◌, ap, ◌∙◌}
use mathlib.Core.List.{List}
use Prim.Native.Nat.{ℕ, ◌+◌, ◌*◌, ◌/◌, ◌%◌, ◌^◌, ◌<◌}
use native.Mathlib.Omega.{arith}
use Rattle.buffers.specs.Columns.{stored, stored-none, stored_more}
use Rattle.noise.proofs.Groups.{group_x, group_y}
use Rattle.noise.proofs.split_string.Goals as goal

-- four coefficients more
next : (n i g : ℕ) (f f' : ℕ → ℕ) (l s s' : List ℕ) → s ≡ stored (λ t. t * n + i) f (4 * g) l → s' ≡ stored (λ c. 4 * g * n + i + c * n) f' 4 s → ((c : ℕ) → c < 4 → f' c ≡ f (4 * g + c)) → s' ≡ stored (λ t. t * n + i) f (4 * (g + 1)) l
next n i g f f' l s s' e d v =
    let m : 4 * g + 4 ≡ 4 * (g + 1) = omega arith in
    d ∙ stored_more (λ t. t * n + i) f l (4 * g) 4 (λ c. 4 * g * n + i + c * n) f' s e (λ c h. omega arith) v ∙ ap (λ (m : ℕ). stored (λ t. t * n + i) f m l) m

pub loop-g-init : goal.loop-g-init
loop-g-init c = (omega arith, stored-none _ _ _, stored-none _ _ _)

pub loop-g-preserved : goal.loop-g-preserved
loop-g-preserved c =
    let a = c.args in
    let l = c.loop-g in
    let h = c.loop-g-test.true in
    let r = c.read_group-group.ensures in
    let e = c.store_group.ensures in (
      omega arith,
      next a.n a.i l.g _ _ a.x.now l.x _ l.invariant.1 e.0 (λ c m. ap (λ (v : ℕ). v / 2 ^ (2 * a.k * c) % 2 ^ a.k) r ∙ group_x a.bytes.now a.k a.i l.g h c m),
      next a.n a.i l.g _ _ a.y.now l.y _ l.invariant.2 e.1 (λ c m. ap (λ (v : ℕ). v / 2 ^ (2 * a.k * c + a.k) % 2 ^ a.k) r ∙ group_y a.bytes.now a.k a.i l.g h c m),
    )
