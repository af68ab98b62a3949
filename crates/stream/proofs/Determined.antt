-- The contracts of `stream` that do not ask standard output determine the result, or what is left of the place. `Reads.Post`, which Rattle
-- makes of a function's `ensures`, is the contract itself: no copy of it is written here. Assumes nothing.
use Rattle.numbers.specs.Outcome.{Answer, Determined, by_definition}
use Rattle.stream.specs.declared.place.Place.{Place}
use Rattle.stream.proofs.place.Place.start.Reads as start
use Rattle.stream.proofs.place.Place.is_over.Reads as is-over
use Rattle.stream.proofs.place.Place.refuse.Reads as refuse
use Rattle.stream.proofs.place.Place.refuse_if.Reads as refuse-if

pub place_determined : Answer start.Post × Answer is-over.Post
    × Determined {O = Place} (λ r s. s.0.now) refuse.Post × Determined {O = Place} (λ r s. s.0.now) refuse-if.Post
place_determined = (by_definition, by_definition, by_definition, by_definition)
