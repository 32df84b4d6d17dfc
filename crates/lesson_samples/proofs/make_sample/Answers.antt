-- The shares are made, and where the sampler accepts they are opened.
use mathlib.Core.Path.{◌≡◌, ap, ◌∙◌}
use Prim.Native.Nat.{ℕ, ◌≤◌}
use lib.ListN.{length}
use mathlib.Core.List.{List}
use lib.Seq.{length-take-le}
use Rattle.residue.proofs.Signed.{read_back}
use Rattle.residue.specs.Residue.{reduce, total}
use Rattle.binomial.specs.Signed.{centred_value}
use Rattle.buffers.specs.Overwrite.{overwrite}
use Rattle.checks.specs.Answers.{outcome}
use Rattle.checks.specs.Laws.{Hold}
use Rattle.checks.proofs.Settles.{handed_on}
use Rattle.std.specs.Prelude.{Ok}
use Rattle.sampler.specs.Accepted.{SharedPair, pair-large}
use Rattle.lesson_file.specs.Records.{Sample, sample_of}
use Rattle.lesson_samples.specs.Lesson.{shares_of, fit_checks}
use Rattle.lesson_samples.specs.Call.{SampleBuffers, sample_buffers, held, sampled_in}
use Rattle.lesson_samples.specs.SampleLaws.{sample-pair, shares-fit, taken-below, opened_value, made_holds, made_done, made_refused}
use borrow.Author.Rules.{rules}
use Rattle.lesson_samples.proofs.make_sample.Goals as goal
use Rattle.lesson_samples.proofs.make_sample.Goals.{After-make_shares}

-- what the sampler's acceptance says, where the shares are made
module _ (c : After-make_shares) where
  abbrev before : SampleBuffers
  before = held c.args.buffers.now

  abbrev after : SampleBuffers
  after = sample_buffers c.make_shares.new.words c.make_shares.new.out c.make_shares.new.work

  abbrev sample : Sample
  sample = sample_of c.args.file.now c.args.layout

  module _ (used : ℕ) (i : c.make_shares.result ≡ Ok used) where
    made : Hold (fit_checks c.args.file.now c.args.layout) × (after ≡ sampled_in sample before)
    made = made_holds c.args.file.now c.args.layout before after _ c.make_shares.ensures used i

    pair : SharedPair sample.n sample.k sample.q sample.x sample.y
    pair = sample-pair c.args.file.now c.args.layout c.requires.0 made.0

    out : after.out ≡ overwrite c.args.buffers.now.out.now 0 (shares_of sample)
    out = ap (λ b. b.out) made.1

    fits : c.args.layout.parameters.n ≤ length after.out
    fits = shares-fit c.args.file.now c.args.layout c.requires.0 made.0 c.args.buffers.now.out.now _ out c.requires.1.share-room

pub open_sample-value-requires : goal.open_sample-value-requires
unfolding sample_of
open_sample-value-requires c =
    let d = (goal.at.open_sample-value-requires c).After-make_shares in
    let p = pair d _ c.in_ok-used.was in
    (p.two, p.eight, pair-large p, ap length c.shares.ensures ∙ length-take-le _ _ (fits d _ c.in_ok-used.was), rw c.shares.ensures (taken-below c.args.file.now c.args.layout c.requires.0 (made d _ c.in_ok-used.was).0 c.args.buffers.now.out.now _ (out d _ c.in_ok-used.was)))

pub returns-in_err-used : goal.returns-in_err-used
returns-in_err-used c =
    let d = (goal.at.returns-in_err-used c).After-make_shares in
    (ap (λ r. outcome r (after d)) (handed_on _ _ c.from_residual.ensures.1) ∙ made_refused c.args.file.now c.args.layout (before d) (after d) _ c.make_shares.ensures _ c.in_err-used.was, search rules)

pub returns : goal.returns
returns c =
    let d = (goal.at.returns c).After-make_shares in (
      made_done c.args.file.now c.args.layout (before d) (after d) _ c.make_shares.ensures _ c.in_ok-used.was _
          (read_back c.open_sample-value.result c.open_sample-value.type_inv ∙ c.open_sample-value.ensures ∙ ap (λ (l : List ℕ). centred_value c.args.layout.parameters.q (reduce c.args.layout.parameters.q (total l))) c.shares.ensures ∙ opened_value c.args.file.now c.args.layout c.requires.0 (made d _ c.in_ok-used.was).0 c.args.buffers.now.out.now _ (out d _ c.in_ok-used.was)),
      search rules,
    )
