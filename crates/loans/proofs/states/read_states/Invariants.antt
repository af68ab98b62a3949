-- `loans::states::read_states` meets its contract: each state that is read leaves what is gathered. Assumes nothing.
use Rattle.stream.specs.Place.{Kept}
use Rattle.loans.proofs.states.read_states.Given as goal

abbrev pub invariant-loop-state : goal.invariant-loop-state
invariant-loop-state l = Kept l.initial.place l.place
