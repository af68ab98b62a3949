-- `loans::patch::read_stages` meets its contract: each stage that is read leaves what is gathered. Assumes nothing.
use Rattle.stream.specs.Place.{Kept}
use Rattle.loans.proofs.patch.read_stages.Given as goal

abbrev pub invariant-loop-stage : goal.invariant-loop-stage
invariant-loop-stage l = Kept l.initial.place l.place
