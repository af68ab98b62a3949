-- `operations::pools::read_pool_marks` meets its contract: each word that is read leaves what is gathered. Assumes nothing.
use Rattle.stream.specs.Place.{Kept}
use Rattle.operations.proofs.pools.read_pool_marks.Given as goal

abbrev pub invariant-loop-mark : goal.invariant-loop-mark
invariant-loop-mark l = Kept l.initial.place l.place
