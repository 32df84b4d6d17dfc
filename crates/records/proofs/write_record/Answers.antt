-- The eight bytes stand where the writer was, and it stands behind them.
use Rattle.std.proofs.Common.{◌≡◌, ◌∙◌, [], ◌∷◌, refl, sym, arith, rules}
use Rattle.std.proofs.lemmas.Slice.{put_mid-paste}
use Rattle.buffers.specs.Laws.{overwrite_pastes}
use Rattle.records.specs.Records.{bytes, step}
use Rattle.records.proofs.write_record.Goals as goal

pub returns : goal.returns
unfolding bytes
returns c =
    let a = c.args in
    let record-bytes = bytes (step a.bit a.round a.share a.kind a.value ∷ []) in
    let copied : c.copy_from_slice.new.self ≡ record-bytes = search rules in
    record {
      wrote = (put_mid-paste a.out.now.end _ a.out.now.text.now _ record-bytes _ copied (omega arith) refl ∙ sym (overwrite_pastes a.out.now.text.now a.out.now.end record-bytes), omega arith);
      same = refl;
    }
