-- A file that is too long is refused; else the records are read, and a sample whose records are whole is made.
use mathlib.Core.Path.{◌≡◌, sym, ap, ◌∙◌}
use Rattle.checks.specs.Laws.{Hold, accepted-holds, accepted-answer}
use Rattle.checks.specs.Answers.{reading, outcome}
use Rattle.checks.proofs.Settles.{handed_on}
use Rattle.lesson_file.specs.Layouts.{whole-sample}
use Rattle.lesson_file.specs.Records.{layout_at, layout_checks}
use Rattle.lesson_samples.specs.Call.{held}
use Rattle.lesson_samples.specs.LessonLaws.{next-long, next-read, next-unread}
use Rattle.lesson_samples.specs.Steps.{sampled_at, sample_judged}
use borrow.Author.Rules.{rules}
use Rattle.lesson_samples.proofs.next_sample.Goals as goal
use Rattle.lesson_samples.proofs.next_sample.Goals.{In_ok-layout}

module _ (c : In_ok-layout) where
  holds : Hold (layout_checks c.args.file.now c.args.cursor.at)
  holds = accepted-holds _ _ _ (sym c.in_ok-layout.ensures)

  layout : c.in_ok-layout.layout ≡ layout_at c.args.file.now c.args.cursor.at
  layout = accepted-answer _ _ _ (sym c.in_ok-layout.ensures)

pub returns-then-file-gt-FILE_LIMIT : goal.returns-then-file-gt-FILE_LIMIT
returns-then-file-gt-FILE_LIMIT c =
    let b = held c.args.buffers.now in
    (ap (λ v. record { answer = v; buffers = b }) (rw c.into.ensures at c.refuse.ensures) ∙ sym (next-long c.args.file.now c.args.cursor.at b c.if-file-gt-FILE_LIMIT.true), search rules)

pub make_sample-requires : goal.make_sample-requires
make_sample-requires c =
    let d = (goal.at.make_sample-requires c).In_ok-layout in
    (rw (layout d) (whole-sample _ _ (holds d)), search rules)

pub returns-in_err-layout : goal.returns-in_err-layout
returns-in_err-layout c =
    let a = c.args in (
      ap (λ r. outcome r (held a.buffers.now)) (handed_on _ _ c.from_residual.ensures.1)
          ∙ sym (next-unread a.file.now a.cursor.at _ c.if-file-gt-FILE_LIMIT.false _ _ (sym c.read_sample.ensures ∙ ap reading c.in_err-layout.was)),
      search rules,
    )

pub returns : goal.returns
returns c =
    let a = c.args in
    let b = held a.buffers.now in
    let d = (goal.at.returns c).In_ok-layout in
    (c.make_sample.ensures.0 ∙ ap (λ l. sample_judged a.file.now b l (sampled_at a.file.now l)) (layout d) ∙ sym (next-read a.file.now a.cursor.at b c.if-file-gt-FILE_LIMIT.false (holds d)), c.make_sample.ensures.1)
