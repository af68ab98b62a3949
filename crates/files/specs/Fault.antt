-- Why a patch file is refused, and the documents' numbers for it. Assumes nothing.
use Rattle.std.specs.Prelude.{ℕ, Bool, cond, [], Result, Ok, Err, ⊤}
use Rattle.flat.specs.declared.patch.FlatPatch.{FlatPatch}
use Rattle.files.specs.File.{ReadPatch, patch_from}
use Rattle.files.specs.declared.fault.Fault.{Fault}
use Rattle.files.specs.declared.fault.FaultReason.{FaultReason}
use Rattle.files.specs.declared.fault.FaultReason.TheVariants.{EndsEarly, OtherVersion, Unknown, TooLarge, LeftOver, TooManyStages}

-- "20 the bytes end early", "21 version", "22 unknown kind, choice or parameter mark", "23 a number too large, or longer than five bytes",
-- "24 bytes left over", "25 more than 32 stages"
abbrev pub fault_number : FaultReason → ℕ
fault_number EndsEarly = 20
fault_number OtherVersion = 21
fault_number Unknown = 22
fault_number TooLarge = 23
fault_number LeftOver = 24
fault_number TooManyStages = 25

-- what a test answers: done, or a fault of what begins at an offset
abbrev pub unless : Bool → FaultReason → ℕ → Result ⊤ Fault
unless passed reason offset = cond passed (Ok tt) (Err (record { reason = reason; offset = offset }))

-- what is answered, in numbers: 0, 0 and the patch, or the refusal's number with its offset, and the empty patch
abbrev pub in_numbers : Result FlatPatch Fault → ReadPatch
in_numbers (Ok patch) = record { number = 0; offset = 0; patch = patch }
in_numbers (Err fault) = record { number = fault_number fault.reason; offset = fault.offset; patch = patch_from [] }
