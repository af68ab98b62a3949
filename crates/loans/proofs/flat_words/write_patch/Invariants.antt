-- `loans::flat_words::write_patch` meets its contract: each stage that is written leaves what is unread. Assumes nothing.
use mathlib.Core.Path.{◌≡◌}
use Rattle.loans.proofs.flat_words.write_patch.Given as goal

abbrev pub invariant-loop-stage : goal.invariant-loop-stage
invariant-loop-stage l = l.place.input ≡ l.initial.place.input
