-- What holds of a call that writes a text about a lesson file.
use Rattle.std.specs.Prelude.{◌≡◌, Result, Ok, Err, IsErrAnd, List, ℕ, ◌≤◌, length, take, drop}
use Rattle.std.specs.Result.{result_unwrap_or}
use Rattle.std.proofs.Math.Path.{refl, ap}
use Rattle.std.proofs.Common.{sym, ◌∙◌, arith, le-leb, leb-true}
use Rattle.std.proofs.Math.Nat.{zero-add}
use Rattle.std.proofs.Math.ListN.{length-append}
use Rattle.buffers.specs.Laws.{front, take-front}
use Rattle.checks.specs.Checks.{accepted, checked}
use Rattle.checks.specs.Laws.{not_both, accepts, accepted-answer, settled-answer, settled-done}
use Rattle.checks.proofs.Settles.{checks-hold, settles_accepted, settles_refused}
use Rattle.checks.specs.declared.Refusal.{Refusal}
use Rattle.checks.specs.Answers.{reading, outcome}
use Rattle.text.specs.Text.{Wrote}
use Rattle.lesson_samples.specs.Lesson.{lesson}
use Rattle.lesson_samples.specs.Call as call
use Rattle.lesson_samples.specs.Call.{SampleBuffers, sample_buffers, held, SameBuffers, after_lesson, call_checks, with_text, piece_written}
use Rattle.lesson_samples.specs.Steps.{SampleRoom, HasSampleRoom}
use Rattle.lesson_samples.specs.declared.Buffers.{Buffers}

-- ---- the buffers

pub buffers_begun : (b : Buffers) → SameBuffers b b
buffers_begun b = record { words = (refl, refl); out = (refl, refl); work = (refl, refl) }

pub buffers_then : {a b c : Buffers} → SameBuffers a b → SameBuffers b c → SameBuffers a c
buffers_then s t = record { words = (t.words.0 ∙ s.words.0, t.words.1 ∙ s.words.1); out = (t.out.0 ∙ s.out.0, t.out.1 ∙ s.out.1); work = (t.work.0 ∙ s.work.0, t.work.1 ∙ s.work.1) }

pub buffers-room : {a b : Buffers} → SameBuffers a b → HasSampleRoom a → HasSampleRoom b
buffers-room s r = rw (s.words.1, s.out.1, s.work.1) r

-- what they hold, by the caller's slices
pub held_by : (b : Buffers) {words out work : List ℕ} → words ≡ b.words.now → out ≡ b.out.now → work ≡ b.work.now → sample_buffers words out work ≡ held b
held_by b e d f = rw (e, d, f) refl

-- ---- the call

-- the room that the checks ask for
pub call-room : (room words out work text : ℕ) (r : Result Unit Refusal) → reading r ≡ checked (call_checks room words out work text) → r ≡ Ok tt → SampleRoom words out work × (room ≤ text)
call-room room words out work text r e i =
    let h = checks-hold (call_checks room words out work text) r e i in
    (record { word_room = leb-true _ _ h.0; share-room = leb-true _ _ h.1.0; total-room = leb-true _ _ h.1.1.1.0 }, leb-true _ _ h.1.1.0)

module _ (room : ℕ) (piece file words out work text : List ℕ) where
  -- what the checks settle
  module _ (r : Result Unit Refusal) (e : reading r ≡ checked (call_checks room (length words) (length out) (length work) (length text))) where
    pub call-refused : {f : Refusal} (s : Result ℕ Refusal) → r ≡ Err f → IsErrAnd s (λ g. g ≡ f) → outcome s (with_text (sample_buffers words out work) text) ≡ piece_written room piece file words out work text
    unfolding piece_written
    call-refused s i h = settles_refused _ _ e _ _ _ s i h

    pub call-done : r ≡ Ok tt → (b : SampleBuffers) (after : List ℕ) (count : ℕ) → b ≡ after_lesson (lesson file) (sample_buffers words out work) → Wrote text 0 piece after count → outcome (Ok count) (with_text b after) ≡ piece_written room piece file words out work text
    unfolding piece_written
    call-done i b after count d w = rw (d, w.0, w.1, zero-add (length piece)) (settles_accepted _ _ e _ (with_text (sample_buffers words out work) text) _ i)

  -- With room enough the call is accepted, whatever the file.
  pub call-accepted : SampleRoom (length words) (length out) (length work) → room ≤ length text → (piece_written room piece file words out work text).answer ≡ accepted (length piece)
  unfolding piece_written
  call-accepted s h =
      settled-answer _ _ _
      ∙ accepts _ (call_checks room (length words) (length out) (length work) (length text))
      (le-leb 1792 (length words) s.word_room, (le-leb 8 (length out) s.share-room, (le-leb room (length text) h, (le-leb 8 (length work) s.total-room, tt))))

  -- what a caller learns from the answer
  module _ (a : Result ℕ Refusal) (b : call.Buffers) (e : outcome a b ≡ piece_written room piece file words out work text) where
    -- the text stands in front of the text buffer
    pub text_in_front : (count : ℕ) → a ≡ Ok count → (take count b.text ≡ piece) × (count ≤ length b.text)
    unfolding piece_written
    text_in_front count i =
        let d = settled-done _ _ _ (sym (ap (λ a. outcome a b) i) ∙ e) in
        let c = accepted-answer _ count _ d.0 in
        let t = ap (λ b. b.text) d.1 in
        rw (t, c) (take-front text piece (length piece) refl, rw (front text piece) (omega (arith, length-append piece (drop (length piece) text))))

    pub never_refused : SampleRoom (length words) (length out) (length work) → room ≤ length text → (f : Refusal) → a ≡ Err f → ⊥
    never_refused s h f i = not_both (sym (call-accepted s h) ∙ ap (λ o. o.answer) (sym e) ∙ ap reading i)

    -- a caller that answers 0 for a refusal answers the length of the text
    pub text_unwrapped : SampleRoom (length words) (length out) (length work) → room ≤ length text → (take (result_unwrap_or a 0) b.text ≡ piece) × (result_unwrap_or a 0 ≤ length b.text)
    text_unwrapped s h = go a refl
      where
        go : (r : Result ℕ Refusal) → a ≡ r → (take (result_unwrap_or r 0) b.text ≡ piece) × (result_unwrap_or r 0 ≤ length b.text)
        go (Ok count) i = text_in_front count i
        go (Err f) i = absurd (never_refused s h f i)
