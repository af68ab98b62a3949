-- `loans::setting::set_all` meets its contract: each setting that is read leaves what is gathered. Assumes nothing.
use Rattle.stream.specs.Place.{Kept}
use Rattle.loans.proofs.setting.set_all.Given as goal

abbrev pub invariant-loop-k : goal.invariant-loop-k
invariant-loop-k l = Kept l.initial.place l.place
