use mathlib.Core.Path.{refl, sym, ◌∙◌}
use native.Mathlib.Omega.{arith}
use Rattle.std.proofs.lemmas.Slice.{put_mid-paste}
use Rattle.buffers.specs.Laws.{overwrite_pastes}
use Rattle.buffers.proofs.copy.Goals as goal

pub returns : goal.returns
returns g c =
    let a = c.args in
    put_mid-paste a.start _ a.to.now _ a.from.now _ c.copy_from_slice.ensures.after (omega arith) refl
    ∙ sym (overwrite_pastes a.to.now a.start a.from.now)
