-- Both shares are computed, then stored, then recorded.
use mathlib.Core.Path.{◌≡◌, ◌∙◌}
use mathlib.Core.List.{[], ◌∷◌}
use Prim.Native.Nat.{◌+◌}
use native.Mathlib.Omega.{arith}
use lib.ListN.{set, length-set}
use Rattle.residue.specs.Residue.{add, sub}
use Rattle.residue.proofs.Laws.{add_cong, sub_cong, add_lt}
use Rattle.buffers.specs.Positions.{at}
use Rattle.records.specs.Records.{step}
use Rattle.records.specs.Laws.{fits_behind}
use Rattle.step_pairs.proofs.Steps.{pair-stored, pair_recorded}
use Rattle.step_pairs.proofs.refresh_pair.Goals as goal
use Rattle.step_pairs.proofs.refresh_pair.Goals.{After-narrow-higher, After-narrow-lower, After-widen}

modulus : (c : After-widen) → c.widen-modulus.result ≡ c.args.q
modulus c = c.widen-modulus.ensures

lower : (c : After-narrow-lower) → let a = c.args in c.narrow-lower.result ≡ add a.q (at a.list.now a.i) a.r
lower c =
    c.narrow-lower.ensures ∙ c.add.ensures ∙ add_cong (c.widen-modulus.ensures) c.widen.ensures c.widen-word.ensures

higher : (c : After-narrow-higher) → let a = c.args in c.narrow-higher.result ≡ sub a.q (at a.list.now a.m) a.r
higher c =
    c.narrow-higher.ensures ∙ c.sub.ensures ∙ sub_cong (c.widen-modulus.ensures) c.widen-2.ensures c.widen-word.ensures

pub narrow-lower-requires : goal.narrow-lower-requires
narrow-lower-requires c = rw (c.add.ensures, modulus (goal.at.narrow-lower-requires c).After-widen) (add_lt _ (omega (arith, c.requires.3.large)) _ _)

pub narrow-higher-requires : goal.narrow-higher-requires
narrow-higher-requires c = rw (c.sub.ensures, modulus (goal.at.narrow-higher-requires c).After-widen) (add_lt _ (omega (arith, c.requires.3.large)) _ _)

pub write_record-requires-2 : goal.write_record-requires-2
write_record-requires-2 c =
    let a = c.args in
    fits_behind (step a.bit a.pair (a.i + 1) 4 c.narrow-lower.result ∷ []) (step a.bit a.pair (a.m + 1) 4 c.narrow-higher.result ∷ []) (record { room = c.requires.7.room }) c.write_record.ensures

pub returns : goal.returns
returns c =
    let a = c.args in
    let e = lower (goal.at.returns c).After-narrow-lower in
    let f = higher (goal.at.returns c).After-narrow-higher in (
      length-set (set a.list.now a.i _) a.m _ ∙ length-set a.list.now a.i _ ∙ c.requires.4,
      pair-stored _ _ _ _ a.list.now _ _ c.requires.0 e f (omega (arith, c.requires.4)),
      record { wrote = pair_recorded _ _ _ _ a.list.now _ _ c.requires.0 e f _ _ _ _ _ _ _ _ c.write_record.ensures.wrote c.write_record-2.ensures.wrote; same = c.write_record-2.ensures.same ∙ c.write_record.ensures.same },
    )
