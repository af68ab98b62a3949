-- `loans::flat_words::write_parameters` meets its contract: each parameter that is written leaves what is unread. Assumes nothing.
use mathlib.Core.Path.{◌≡◌}
use Rattle.loans.proofs.flat_words.write_parameters.Given as goal

abbrev pub invariant-loop-parameter : goal.invariant-loop-parameter
invariant-loop-parameter l = l.place.input ≡ l.initial.place.input
