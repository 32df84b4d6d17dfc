use mathlib.Core.Path.{◌≡◌, refl, sym, ap, ◌∙◌}
use Prim.Native.Nat.{ℕ, ◌+◌, ◌*◌, ◌/◌, ◌%◌, ◌^◌}
use native.Mathlib.Nat as N
use native.Mathlib.Omega.{arith}
use lib.Pow.{shr-shr}
use Rattle.buffers.specs.Columns.{stored-none, stored_next}
use Rattle.noise.proofs.store_group.Goals as goal

-- what is left of a group
whole : (group k : ℕ) → group ≡ group / 2 ^ (2 * k * 0)
whole group k = rw (N.mul-zero (2 * k)) (sym (N.div-one group))

behind : (group k s rest : ℕ) → rest ≡ group / 2 ^ s → rest / 2 ^ k ≡ group / 2 ^ (s + k)
behind group k s rest e = ap (λ (v : ℕ). v / 2 ^ k) e ∙ shr-shr group s k

pub loop-c-init : goal.loop-c-init
loop-c-init c = (omega arith, whole _ _, stored-none _ _ _, stored-none _ _ _)

pub loop-c-preserved : goal.loop-c-preserved
loop-c-preserved c =
    let l = c.loop-c in
    let a = c.args in
    let above = behind a.group a.k (2 * a.k * l.c) l.rest l.invariant.1 in
    let s : 2 * a.k * l.c + a.k + a.k ≡ 2 * a.k * (l.c + 1) = omega arith in (
      omega arith,
      behind a.group a.k (2 * a.k * l.c + a.k) (l.rest / 2 ^ a.k) above ∙ ap (λ (s : ℕ). a.group / 2 ^ s) s,
      stored_next _ _ _ l.c _ _ l.x l.invariant.2 refl (c.low_bits.ensures ∙ ap (λ (v : ℕ). v % 2 ^ a.k) l.invariant.1),
      stored_next _ _ _ l.c _ _ l.y l.invariant.3 refl (c.low_bits-in-loop-c.ensures ∙ ap (λ (v : ℕ). v % 2 ^ a.k) above),
    )
