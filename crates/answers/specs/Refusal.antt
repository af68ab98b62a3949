-- What a call that may be refused answers, and the documents' numbers for it. Assumes nothing.
use Rattle.std.specs.Prelude.{ℕ, Option, Some, None, Result, Ok, Err, ⊤}
use Rattle.std.proofs.Math.Option as found
use Rattle.answers.specs.declared.activity.StageActivity.{StageActivity}
use Rattle.answers.specs.declared.activity.StageActivity.TheVariants.{Exhausted}
use Rattle.answers.specs.declared.refusal.Reason.{Reason}
use Rattle.answers.specs.declared.refusal.Reason.TheVariants.{Bounds, Window, Order, Ring, Buffer, Parameter, Clash, Outputs}
use Rattle.answers.specs.declared.refusal.Refusal.{Refusal}
use Rattle.answers.specs.declared.refusal.Told.{Told}

-- document 01's numbers, and 02's, Two:
--     1   "a count of buffers or stages, or a capacity, is over its bound, a pool slice has another length, or the lent zeros aren't .."
--     2   "the window is longer than .."
--     3   "the order names a stage that isn't there, names one twice, or is longer than 32"
--     4   a ring, its position, or the room for all rings
--     5   "a stage names a buffer that isn't there"
--     6   "a parameter's slot is past the lent values, or a required parameter is absent"
--     7   "a stage's output is also one of its inputs and is not stale at its turn"
--     8   "both outputs are the same buffer"
abbrev pub number_of : Reason → ℕ
number_of Bounds = 1
number_of Window = 2
number_of Order = 3
number_of Ring = 4
number_of Buffer = 5
number_of Parameter = 6
number_of Clash = 7
number_of Outputs = 8

-- "the stage (32 for 1 to 4)"
abbrev pub stage_number : Option ℕ → ℕ
stage_number None = 32
stage_number (Some k) = k

-- what a check answers: done where it finds nothing
abbrev pub result_of : {E : Type 0} → found.Option E → Result ⊤ E
result_of found.none = Ok tt
result_of (found.some r) = Err r

-- what checks answer that name no stage: done where none refuses
unfoldable pub verdict_of : found.Option Reason → Result ⊤ Refusal
verdict_of found.none = Ok tt
verdict_of (found.some r) = Err (record { reason = r; stage = None })

-- "0: done; stage 32", or a refusal's "number, the stage"
abbrev pub told_of : {T : Type 0} → Result T Refusal → Told
told_of (Ok t) = record { number = 0; stage = 32 }
told_of (Err r) = record { number = number_of r.reason; stage = stage_number r.stage }

-- the same of checks that have numbers, whichever these are
abbrev pub told_by : found.Option ℕ → Told
told_by found.none = record { number = 0; stage = 32 }
told_by (found.some r) = record { number = r; stage = 32 }

-- ".. and Exhausted"
abbrev pub activity_of : Result StageActivity Refusal → StageActivity
activity_of (Ok a) = a
activity_of (Err r) = Exhausted
