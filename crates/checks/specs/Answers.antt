-- What document 01 says for each case of the answers in the code: the number and the position of a refusal, and the value of an accepted call.
use Rattle.std.specs.Prelude.{ℕ, Result, Ok, Err}
use Rattle.checks.specs.Checks.{Verdict, accepted, refused, Outcome}
use Rattle.checks.specs.declared.Reason.{Reason}
use Rattle.checks.specs.declared.Refusal.{Refusal}

-- the page's number
abbrev pub code : Reason → ℕ
code Reason.ShareCount = 1
code Reason.StringLength = 2
code Reason.Modulus = 3
code Reason.XCount = 4
code Reason.YCount = 5
code Reason.XWidth = 6
code Reason.YWidth = 7
code Reason.WordCount = 8
code Reason.WordRange = 9
code Reason.OutputRoom = 10
code Reason.WorkRoom = 11
code Reason.ValueWidth = 12
code Reason.MaskCount = 13
code Reason.MaskWidth = 14
code Reason.ArithmeticCount = 15
code Reason.ArithmeticRange = 16
code Reason.ResidueRange = 17
code Reason.Mark = 18
code Reason.CutShort = 19
code Reason.WordLimit = 20
code Reason.FileLength = 21
code Reason.SetNumber = 22
code Reason.CoefficientCount = 23
code Reason.NoiseSet = 24
code Reason.NoiseLength = 25
code Reason.RecordRoom = 26

-- of a call whose value is read by `view`
abbrev pub reading_by : {A B : Type 0} → (A → B) → Result A Refusal → Verdict B
reading_by view (Ok a) = accepted (view a)
reading_by view (Err r) = refused r.code r.position

-- of any other call, or of the checks of one, which have no value
abbrev pub reading : {A : Type 0} → Result A Refusal → Verdict A
reading r = reading_by (λ a. a) r

-- of a call with buffers: its answer, and what they hold after it
abbrev pub outcome : {A B : Type 0} → Result A Refusal → B → Outcome A B
outcome a after = record { answer = reading a; buffers = after }
