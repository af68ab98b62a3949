-- Each public contract of `answers` determines what is seen of a call: its result, or the slice that it fills. `Reads.Post`, which Rattle
-- makes of a function's `ensures`, is the contract itself: no copy of it is written here. Assumes nothing.
use Rattle.numbers.specs.Outcome.{Answer, Determined, by_definition}
use Rattle.answers.proofs.refusal.unless.Reads as unless
use Rattle.answers.proofs.refusal.refusal_unless.Reads as refusal-unless
use Rattle.answers.proofs.refusal.activity_of.Reads as activity-of
use Rattle.answers.proofs.refusal.Told.of.Reads as told-of
use Rattle.answers.proofs.refusal.Told.refusal.Reads as told-refusal
use Rattle.answers.proofs.refusal.Told.refusal_unless.Reads as told-unless
use Rattle.answers.proofs.refusal.UsizeFromReason.from.Reads as number-of
use Rattle.answers.proofs.refusal.RefusalFromReason.from.Reads as refusal-of
use Rattle.answers.proofs.activity.U8FromStageActivity.from.Reads as rank
use Rattle.answers.proofs.activity.greater.Reads as greater
use Rattle.answers.proofs.zeros.fill_with_zeros.Reads as fill-with-zeros

-- of a refusal of any sort
pub unless_determined : (E : _) (L : _) (D : _) → Answer (unless.Post E L D)
unless_determined E L D = by_definition

pub refusal_determined : Answer refusal-unless.Post × Answer number-of.Post × Answer refusal-of.Post
refusal_determined = (by_definition, by_definition, by_definition)

-- of an answer of any type
pub told_determined : (T : _) (L : _) (C : _) (g : _) (d : _) → Answer (told-of.Post T L C g d)
told_determined T L C g d = by_definition

pub told_by_determined : Answer told-refusal.Post × Answer told-unless.Post
told_by_determined = (by_definition, by_definition)

pub heard_determined : Answer activity-of.Post
heard_determined = by_definition

pub activity_determined : Answer rank.Post × Answer greater.Post
activity_determined = (by_definition, by_definition)

pub zeros_determined : Determined (λ r s. s.0.now) fill-with-zeros.Post
zeros_determined = by_definition
