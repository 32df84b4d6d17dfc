-- The lists and RW are copied out of the file, and the sampler says the rest.
use mathlib.Core.Path.{◌≡◌, ap, ◌∙◌}
use mathlib.Core.List.{List}
use Prim.Native.Nat.{ℕ}
use Rattle.checks.specs.Answers.{outcome}
use Rattle.sampler.specs.Sampler.{both, sampled}
use Rattle.lesson_file.specs.Records.{sample_of}
use Rattle.lesson_file.specs.RecordLaws.{words-taken}
use Rattle.lesson_samples.specs.Call.{sample_buffers}
use Rattle.lesson_samples.specs.SamplerLaws.{judged-done, judged-refused}
use Rattle.lesson_samples.proofs.make_shares.Goals as goal
use Rattle.lesson_samples.proofs.make_shares.Goals.{After-copy_shares, After-copy_shares-2, After-copy_words, After-sample}

same_lists : (n k q : ℕ) {x x' y y' w w' : List ℕ} (out work : List ℕ) → x ≡ x' → y ≡ y' → w ≡ w' → sampled n k q x y w 0 out work ≡ sampled n k q x' y' w' 0 out work
same_lists n k q out work a b c = rw (a, b, c)

-- the sampler was lent what the file says
sampler : (c : After-sample) → let a = c.args in let s = sample_of a.file.now a.layout in outcome c.sample.result (both c.sample.new.out c.sample.new.work) ≡ sampled s.n s.k s.q s.x s.y s.words 0 a.out.now a.work.now
unfolding sample_of
sampler c =
    c.sample.ensures.work_after ∙ same_lists _ _ _ _ _ (words-taken _ _ _ _ _ c.copy_shares.ensures) (words-taken _ _ _ _ _ c.copy_shares-2.ensures) (words-taken _ _ _ _ _ c.copy_words.ensures)

pub returns-in-Ok : goal.returns-in-Ok
unfolding sample_of
returns-in-Ok c =
    judged-done c.args.file.now c.args.layout c.requires.0 (sample_buffers c.args.words.now c.args.out.now c.args.work.now) c.requires.1 _ _ _ c.copy_words.ensures _ (sampler (goal.at.returns-in-Ok c).After-sample) _ c.in-Ok.is

pub returns-in-Err : goal.returns-in-Err
unfolding sample_of
returns-in-Err c =
    ap (λ v. record { answer = v; buffers = sample_buffers c.copy_words.new.words c.sample.new.out c.sample.new.work }) c.refuse.ensures
    ∙ judged-refused c.args.file.now c.args.layout c.requires.0 (sample_buffers c.args.words.now c.args.out.now c.args.work.now) c.requires.1 _ _ _ c.copy_words.ensures _ (sampler (goal.at.returns-in-Err c).After-sample) _ _
    c.in-Err.is c.record_of.ensures
