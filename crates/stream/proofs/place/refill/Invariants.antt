-- `stream::place::refill` is safe and ends: each read that brings something leaves fewer bytes wanted. Assumes nothing.
use Prim.Native.Nat.{◌-◌}
use Rattle.stream.proofs.place.refill.Given as goal

abbrev pub decreases-loop-end : goal.decreases-loop-end
decreases-loop-end l = l.want - l.end
