-- The list of steps 1 and 2, then step 3 on it.
use mathlib.Core.Path.{◌≡◌, ap, ◌∙◌}
use Prim.Native.Nat.{ℕ}
use native.Mathlib.Omega.{arith}
use Rattle.buffers.specs.Positions.{at, after}
use Rattle.buffers.specs.PositionLaws.{after-at}
use Rattle.conversion.specs.Conversion.{pairs, convert}
use Rattle.conversion.proofs.Laws.{pairs-twice}
use Rattle.conversion.specs.Arrays.{drawn_part}
use Rattle.conversion.proofs.Lists.{holds-below, bit-done}
use Rattle.records.specs.Laws.{records_then, fits-first, fits_behind}
use Rattle.steps.specs.Steps.{refresh_steps, convert_steps}
use Rattle.steps.specs.Laws.{refresh_steps-same}
use Rattle.sample_steps.proofs.convert_bit_steps.Goals as goal
use Rattle.sample_steps.proofs.convert_bit_steps.Goals.{After-convert_steps-first}

-- the words of step 3 begin where those of the list end
behind : (c : After-convert_steps-first) → let a = c.args in after c.convert_steps-first.result.next (at a.words.now) ≡ after (pairs a.n) (after a.start (at a.words.now))
behind c = after-at _ _ _ (at c.args.words.now) c.convert_steps-first.ensures.1

-- the records of step 3 on the array are those of the page
steps : (c : After-convert_steps-first) → let a = c.args in let w = after a.start (at a.words.now) in
    refresh_steps a.q a.bit 1 0 a.n (after c.convert_steps-first.result.next (at a.words.now)) (at c.convert_steps-first.result.list) ≡ refresh_steps a.q a.bit 1 0 a.n (after (pairs a.n) w) (convert a.q a.n (at a.bits.now) w)
steps c =
    let a = c.args in
    refresh_steps-same a.q a.bit a.n 1 0 a.n _ _ _ _ (omega arith) (λ i h. ap (λ (v : ℕ → ℕ). v i) ((after-at _ _ _ (at c.args.words.now) c.convert_steps-first.ensures.1))) c.convert_steps-first.ensures.0.same

pub convert_steps-first-requires : goal.convert_steps-first-requires
unfolding convert_steps
convert_steps-first-requires c =
    let e = pairs-twice c.args.n in
    (c.requires.0, c.requires.1, c.requires.2, c.requires.3, drawn_part _ 0 _ (omega arith) (omega arith) c.requires.4, fits-first _ _ _ _ c.requires.5)

pub refresh_steps-requires : goal.refresh_steps-requires
unfolding convert_steps
refresh_steps-requires c =
    let l = c.convert_steps-first.ensures in
    let e = pairs-twice c.args.n in
    let h = c.requires.3.large in
    (c.requires.1, c.requires.3, l.0.eight, holds-below _ _ _ _ _ (omega (arith, c.requires.2 0 c.requires.0)) l.0, drawn_part _ (pairs c.args.n) _ l.1 (omega arith) c.requires.4, rw (steps (goal.at.refresh_steps-requires c).After-convert_steps-first) (fits_behind _ _ c.requires.5 l.2))

pub returns : goal.returns
unfolding convert_steps
returns c =
    let l = c.convert_steps-first.ensures in
    let r = c.refresh_steps.ensures in
    (record { eight = r.0; same = λ i h. ap (λ (f : ℕ → ℕ). f i) r.1 ∙ bit-done _ _ _ _ _ _ (behind (goal.at.returns c).After-convert_steps-first) l.0 i h }, records_then _ _ l.2 (rw (steps (goal.at.returns c).After-convert_steps-first) at r.2))
