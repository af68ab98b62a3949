-- The public contracts of `files` determine their results. `Reads.Post`, which Rattle makes of a function's `ensures`, is the contract itself: no copy
-- of it is written here. Assumes nothing.
use Rattle.std.proofs.Common.{◌≡◌, ◌∙◌, ap, refl, ℕ, ◌-◌, cond, eqb, [], ◌∷◌, get_or, Result, Ok, Err}
use Rattle.numbers.specs.Outcome.{Answer, by_definition, as_follows}
use Rattle.flat.specs.declared.patch.FlatPatch.{FlatPatch}
use Rattle.files.specs.Fault.{in_numbers}
use Rattle.files.specs.File.{ReadPatch}
use Rattle.files.specs.declared.fault.Fault.{Fault}
use Rattle.files.specs.declared.fault.FaultReason.{FaultReason}
use Rattle.files.specs.declared.fault.FaultReason.TheVariants.{EndsEarly, OtherVersion, Unknown, TooLarge, LeftOver, TooManyStages}
use Rattle.files.proofs.fault.UsizeFromFaultReason.from.Reads as number-of
use Rattle.files.proofs.patch.read_patch.Reads as read-patch
use Rattle.files.proofs.patch.empty.Reads as empty

-- the reason of a number
unfoldable reason_of : ℕ → FaultReason
reason_of n = get_or (EndsEarly ∷ OtherVersion ∷ Unknown ∷ TooLarge ∷ LeftOver ∷ []) (n - 20) TooManyStages

-- an answer, from its numbers
unfoldable from_numbers : ReadPatch → Result FlatPatch Fault
from_numbers told = cond (eqb told.number 0) (Ok told.patch) (Err (record { reason = reason_of told.number; offset = told.offset }))

-- no two answers have the same numbers
and_back : (r : Result FlatPatch Fault) → r ≡ from_numbers (in_numbers r)
unfolding from_numbers reason_of
and_back (Ok patch) = refl
and_back (Err fault) = by fault.reason fault.offset
  where
    by : (reason : FaultReason) (offset : ℕ) → Err (record { reason = reason; offset = offset }) ≡ from_numbers (in_numbers (Err (record { reason = reason; offset = offset })))
    by EndsEarly offset = refl
    by OtherVersion offset = refl
    by Unknown offset = refl
    by TooLarge offset = refl
    by LeftOver offset = refl
    by TooManyStages offset = refl

pub read_determined : Answer read-patch.Post × Answer empty.Post
read_determined = (as_follows (λ κs a r s post. and_back r ∙ ap from_numbers post), by_definition)

pub number_determined : Answer number-of.Post
number_determined = by_definition
