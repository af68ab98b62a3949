-- `loans::states::write_states` meets its contract: each state that is written leaves what is unread. Assumes nothing.
use mathlib.Core.Path.{◌≡◌}
use Rattle.loans.proofs.states.write_states.Given as goal

abbrev pub invariant-loop-state : goal.invariant-loop-state
invariant-loop-state l = l.place.input ≡ l.initial.place.input
