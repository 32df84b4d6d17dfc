-- The bits of x, those of y, and the totals moved.
use mathlib.Core.Path.{◌≡◌, sym, ap, ◌∙◌}
use mathlib.Core.Bool.{true, false}
use mathlib.Core.List.{List}
use Prim.Native.Nat.{ℕ, ◌*◌, ◌<◌}
use native.Mathlib.Omega.{arith}
use borrow.Author.Rules.{rules}
use Rattle.residue.specs.Residue.{sub}
use Rattle.buffers.specs.Overwrite.{overwrite}
use Rattle.buffers.specs.Positions.{at, table, after, Same}
use Rattle.buffers.specs.PositionLaws.{after_zero}
use Rattle.conversion.specs.Conversion.{bit_words}
use Rattle.conversion.specs.Arrays.{drawn_part}
use Rattle.totals.specs.Sample.{string_share}
use Rattle.totals.specs.Totals.{signed_sum}
use Rattle.totals.proofs.Totals.{totals-below, totals-shares, totals_cleared}
use Rattle.records.specs.Records.{Step}
use Rattle.records.specs.Laws.{records_then, fits-first, fits_behind}
use Rattle.steps.specs.Steps.{string_steps, sample_steps}
use Rattle.sample_steps.proofs.Steps.{x-steps, y-steps}
use Rattle.sample_steps.proofs.write_steps.Goals as goal
use Rattle.sample_steps.proofs.write_steps.Goals.{After-add_string_steps}

-- x is in the totals, and its records are written
added : (c : After-add_string_steps) → let a = c.args in c.add_string_steps.new.work ≡ overwrite a.work.now 0 (table a.n (λ i. signed_sum a.q false (at a.work.now i) (string_share a.q a.n a.k (at a.x.now) (at a.words.now) i)))
added c =
    let a = c.args in
    c.add_string_steps.ensures.work_after ∙ ap (λ (w : ℕ → ℕ). overwrite a.work.now 0 (table a.n (λ i. signed_sum a.q false (at a.work.now i) (string_share a.q a.n a.k (at a.x.now) w i)))) ((after_zero (at c.args.words.now)))

-- the records of x
abbrev xs : (q n k : ℕ) (x work : List ℕ) → (ℕ → ℕ) → List Step
xs q n k x work w = string_steps q n k 0 (at x) w (λ t i. signed_sum q false (at work i) (string_share q n t (at x) w i))

x-made : (n k q : ℕ) → 0 < q → (x words work : List ℕ) → Same n (at work) (λ i. 0) → xs q n k x work (after 0 (at words)) ≡ string_steps q n k 0 (at x) (at words) (λ t. string_share q n t (at x) (at words))
x-made n k q h x words work z = ap (xs q n k x work) (after_zero (at words)) ∙ x-steps n k q h (at x) (at words) work z

-- and those of y
y-made : (c : After-add_string_steps) → let a = c.args in let v = after (a.k * bit_words a.n) (at a.words.now) in
    string_steps a.q a.n a.k a.k (at a.y.now) v (λ t i. signed_sum a.q true (at c.add_string_steps.new.work i) (string_share a.q a.n t (at a.y.now) v i))
    ≡ string_steps a.q a.n a.k a.k (at a.y.now) v (λ t i. sub a.q (string_share a.q a.n a.k (at a.x.now) (at a.words.now) i) (string_share a.q a.n t (at a.y.now) v i))
y-made c =
    let a = c.args in
    y-steps a.n a.k a.q (omega (arith, c.requires.3.large)) (at a.x.now) (at a.words.now) a.work.now c.requires.7 (at a.y.now) _ _
    (c.add_string_steps.ensures.work_after ∙ ap (λ (w : ℕ → ℕ). overwrite a.work.now 0 (table a.n (λ i. signed_sum a.q false (at a.work.now i) (string_share a.q a.n a.k (at a.x.now) w i)))) (after_zero (at a.words.now)))

pub add_string_steps-requires : goal.add_string_steps-requires
unfolding sample_steps
add_string_steps-requires c =
    let a = c.args in
    let made = x-made a.n a.k a.q (omega (arith, c.requires.3.large)) a.x.now a.words.now a.work.now c.requires.7 in (
      c.requires.0,
      c.requires.1,
      c.requires.2,
      omega arith,
      c.requires.3,
      drawn_part _ 0 _ (omega arith) (omega arith) c.requires.4,
      c.requires.6,
      (λ i h. rw (c.requires.7 i h) (omega (arith, c.requires.3.large))),
      rw made (fits-first _ _ _ _ c.requires.8),
    )

pub add_string_steps-requires-2 : goal.add_string_steps-requires-2
unfolding sample_steps
add_string_steps-requires-2 c =
    let a = c.args in (
      c.requires.0,
      c.requires.1,
      c.requires.2,
      c.requires.2,
      c.requires.3,
      drawn_part _ (a.k * bit_words a.n) _ (omega arith) (omega arith) c.requires.4,
      search rules,
      totals-below _ _ ((omega (arith, c.requires.3.large))) false (at a.x.now) (at a.words.now) _ a.k _ (added (goal.at.add_string_steps-requires-2 c).After-add_string_steps),
      rw (y-made (goal.at.add_string_steps-requires-2 c).After-add_string_steps) (fits_behind _ _ c.requires.8 (rw (x-made a.n a.k a.q (omega (arith, c.requires.3.large)) a.x.now a.words.now a.work.now c.requires.7) at c.add_string_steps.ensures.recorded)),
    )

pub returns : goal.returns
unfolding sample_steps
returns c =
    let a = c.args in
    let x = c.add_string_steps.ensures in
    let y = c.add_string_steps-2.ensures in
    let pos : 0 < a.q = omega (arith, c.requires.3.large) in
    let written = records_then _ _ (rw (x-made a.n a.k a.q pos a.x.now a.words.now a.work.now c.requires.7) at x.recorded) (rw (y-made (goal.at.returns c).After-add_string_steps) at y.recorded) in
    -- what the writer still holds is what the bytes become
    let same = sym written.same in
    let wrote = written.wrote.0 in (
      c.move_totals.ensures.1 ∙ ap (overwrite a.out.now 0) (totals-shares a.n a.k a.q 0 _ a.x.now a.y.now a.words.now a.work.now _ _ pos c.requires.7 x.work_after (omega arith) y.work_after),
      totals_cleared a.n _ _ a.work.now _ _ _ c.requires.6 c.requires.7 x.work_after y.work_after c.move_totals.ensures.0,
      search (rules, same, wrote),
    )
