-- Each public contract of `engine` determines what is seen of a call: its result and every slice that it may change. `Reads.Post`, which Rattle
-- makes of a function's `ensures`, is the contract itself: no copy of it is written here. Assumes nothing.
use Rattle.numbers.specs.Outcome.{Determined, by_definition}
use Rattle.engine.specs.Run.{after}
use Rattle.engine.proofs.run.run.Reads as run

-- A RUN: its answer with the records, and all three slices that it is lent to change
pub run_determined : Determined (λ r s. after r s.1.1.1.1.1.1.0.now s.1.1.1.1.1.1.1.0.now s.1.1.1.1.1.1.1.1.1.0.now) run.Post
run_determined = by_definition
