-- `stream::place::Place::read_samples` meets its contract and ends: what is gathered stays, and each turn that does not end it fills a sample
-- more. Assumes nothing.
use Prim.Native.Nat.{◌-◌}
use lib.ListN.{length}
use Rattle.stream.specs.Place.{Kept}
use Rattle.stream.proofs.place.Place.read_samples.Given as goal

abbrev pub invariant-loop-count : goal.invariant-loop-count
invariant-loop-count l = Kept l.initial.self l.self

abbrev pub decreases-loop-count : goal.decreases-loop-count
decreases-loop-count l = length l.samples - l.count
