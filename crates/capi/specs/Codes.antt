-- Code 0 says that a call is accepted: no refusal has the number 0.
use Rattle.std.specs.Prelude.{◌≡◌, Bool, true, List, ℕ, ◌<◌, ltb, length, replicate}
use Rattle.std.proofs.Math.Path.{refl}
use Rattle.std.proofs.Common.{sym, ◌∙◌, ltb-true}
use Rattle.checks.specs.Checks.{Check, refused, verdict}
use Rattle.checks.specs.Laws.{settled-answer}
use Rattle.checks.specs.Refusals.{All, refusal_passes}
use Rattle.masking.specs.Sharing.{mask_checks, masked, open_string_checks, opened_string, open_residue_checks, opened_residue}
use Rattle.binomial.specs.Signed.{centre_checks, centred, weight_checks, weight_difference}
use Rattle.binomial.specs.Sets.{set_checks, parameter_set}
use Rattle.conversion.specs.Conversion.{bit_checks, value_checks, converted}
use Rattle.values.specs.Values.{converted_value}
use Rattle.sampler.specs.Sampler.{sample_checks, sampled}
use Rattle.sample_steps.specs.SampleSteps.{step_checks, steps_sampled}
use Rattle.polynomial.specs.Polynomial.{polynomial_checks, sampled_polynomial}
use Rattle.noise.specs.Split.{noise_checks, noise_split}
use Rattle.lesson_samples.specs.Call.{call_checks, piece_written}
use Rattle.lesson.specs.Text.{lesson_text, text_room}
use Rattle.report.specs.Report.{report_text, report_room}
use Rattle.capi.specs.FileText.{lesson_text_written, report_text_written}

abbrev is_numbered : ℕ → ℕ → Bool
is_numbered code position = ltb 0 code

module _ (code position : ℕ) where
  numbered : {A : Type 0} (a : A) (cs : List Check) → All is_numbered cs ≡ true → verdict cs a ≡ refused code position → 0 < code
  numbered a cs h e = ltb-true 0 code (refusal_passes is_numbered a code position cs h e)

  pub mask-code : (n k v : ℕ) (masks out : List ℕ) → (masked n k v masks out).answer ≡ refused code position → 0 < code
  unfolding masked
  mask-code n k v masks out e = numbered n (mask_checks n k v masks (length out)) refl (sym (settled-answer _ _ _) ∙ e)

  pub open_string_code : (n k : ℕ) (shares : List ℕ) → opened_string n k shares ≡ refused code position → 0 < code
  unfolding opened_string
  open_string_code n k shares = numbered _ (open_string_checks n k shares) refl

  pub open_residue-code : (n q : ℕ) (shares : List ℕ) → opened_residue n q shares ≡ refused code position → 0 < code
  unfolding opened_residue
  open_residue-code n q shares = numbered _ (open_residue_checks n q shares) refl

  pub centred-code : (q r : ℕ) → centred q r ≡ refused code position → 0 < code
  unfolding centred
  centred-code q r = numbered _ (centre_checks q r) refl

  pub weight-difference-code : (k x y : ℕ) → weight_difference k x y ≡ refused code position → 0 < code
  unfolding weight_difference
  weight-difference-code k x y = numbered _ (weight_checks k x y) refl

  pub parameter_set-code : (number : ℕ) → parameter_set number ≡ refused code position → 0 < code
  unfolding parameter_set
  parameter_set-code number = numbered _ (set_checks number) refl

  pub convert-bit-code : (n q : ℕ) (bits words : List ℕ) (start : ℕ) (out : List ℕ) → (converted n q bits words start out).answer ≡ refused code position → 0 < code
  unfolding converted
  convert-bit-code n q bits words start out e = numbered _ (bit_checks n q bits words start (length out)) refl (sym (settled-answer _ _ _) ∙ e)

  pub convert-value-code : (n k q : ℕ) (shares words out : List ℕ) → (converted_value n k q shares words out).answer ≡ refused code position → 0 < code
  unfolding converted_value
  convert-value-code n k q shares words out e = numbered _ (value_checks n k q shares words 0 (length out)) refl (sym (settled-answer _ _ _) ∙ e)

  pub sample-code : (n k q : ℕ) (x y words : List ℕ) (start : ℕ) (out work : List ℕ) → (sampled n k q x y words start out work).answer ≡ refused code position → 0 < code
  unfolding sampled
  sample-code n k q x y words start out work e = numbered _ (sample_checks n k q x y words start (length out) (length work)) refl (sym (settled-answer _ _ _) ∙ e)

  pub sample-steps-code : (n k q : ℕ) (x y words out work records : List ℕ) → (steps_sampled n k q x y words out work records).answer ≡ refused code position → 0 < code
  unfolding steps_sampled
  sample-steps-code n k q x y words out work records e = numbered _ (step_checks n k q x y words (length out) (length work) (length records)) refl (sym (settled-answer _ _ _) ∙ e)

  pub sample_polynomial_code : (n k q m : ℕ) (x y words out work : List ℕ) → (sampled_polynomial n k q m x y words out work).answer ≡ refused code position → 0 < code
  unfolding sampled_polynomial
  sample_polynomial_code n k q m x y words out work e = numbered _ (polynomial_checks n k q m x y words (length out) (length work)) refl (sym (settled-answer _ _ _) ∙ e)

  pub split_noise-code : (n number : ℕ) (bytes x y : List ℕ) → (noise_split n number bytes x y).answer ≡ refused code position → 0 < code
  unfolding noise_split
  split_noise-code n number bytes x y e = numbered _ (noise_checks n number bytes (length x) (length y)) refl (sym (settled-answer _ _ _) ∙ e)

  -- the calls that write a text about a lesson file ask the same of their buffers
  text-code : (room : ℕ) (piece file words text : List ℕ) → (piece_written room piece file words (replicate 8 0) (replicate 8 0) text).answer ≡ refused code position → 0 < code
  unfolding piece_written
  text-code room piece file words text e = numbered _ (call_checks room (length words) 8 8 (length text)) refl (sym (settled-answer _ _ _) ∙ e)

  pub lesson-text-code : (file words text : List ℕ) → (lesson_text_written file words text).answer ≡ refused code position → 0 < code
  lesson-text-code file words text = text-code (text_room (length file)) (lesson_text file) file words text

  pub report_text-code : (file words text : List ℕ) → (report_text_written file words text).answer ≡ refused code position → 0 < code
  report_text-code file words text = text-code report_room (report_text file) file words text
