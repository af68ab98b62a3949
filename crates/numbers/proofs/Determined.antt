-- Each public contract of `numbers` determines the result, which is all that is seen of a call: nothing is lent to be changed.
-- `Reads.Post`, which Rattle makes of a function's `ensures`, is the contract itself: no copy of it is written here. Assumes nothing.
use Rattle.numbers.specs.Outcome.{Answer, by_definition}
use Rattle.numbers.proofs.small.maximum.Reads as maximum
use Rattle.numbers.proofs.small.minimum.Reads as minimum
use Rattle.numbers.proofs.small.held.Reads as held
use Rattle.numbers.proofs.small.is_negative.Reads as is_negative
use Rattle.numbers.proofs.small.absolute.Reads as absolute
use Rattle.numbers.proofs.small.copysign.Reads as copysign
use Rattle.numbers.proofs.small.recip.Reads as recip
use Rattle.numbers.proofs.small.whole_part.Reads as whole_part
use Rattle.numbers.proofs.small.fract.Reads as fract
use Rattle.numbers.proofs.small.rem_euclid_one.Reads as rem-euclid-one
use Rattle.numbers.proofs.ceil.round_up.Reads as round_up
use Rattle.numbers.proofs.ceil.rounded_up.Reads as rounded-up
use Rattle.numbers.proofs.turns.horner.Reads as horner
use Rattle.numbers.proofs.turns.sine_sum.Reads as sine-sum
use Rattle.numbers.proofs.turns.cosine_sum.Reads as cosine-sum
use Rattle.numbers.proofs.turns.sine_turns.Reads as sine-turns
use Rattle.numbers.proofs.turns.cosine_turns.Reads as cosine-turns
use Rattle.numbers.proofs.zeros.all_plus_zero.Reads as all-plus-zero

pub small_determined : Answer maximum.Post × Answer minimum.Post × Answer held.Post × Answer is_negative.Post × Answer absolute.Post
    × Answer copysign.Post × Answer recip.Post × Answer whole_part.Post × Answer fract.Post × Answer rem-euclid-one.Post
small_determined = (
  by_definition,
  by_definition,
  by_definition,
  by_definition,
  by_definition,
  by_definition,
  by_definition,
  by_definition,
  by_definition,
  by_definition,
)

pub ceil_determined : Answer round_up.Post × Answer rounded-up.Post
ceil_determined = (by_definition, by_definition)

pub turns_determined : Answer horner.Post × Answer sine-sum.Post × Answer cosine-sum.Post × Answer sine-turns.Post × Answer cosine-turns.Post
turns_determined = (by_definition, by_definition, by_definition, by_definition, by_definition)

pub zeros_determined : Answer all-plus-zero.Post
zeros_determined = by_definition
