-- `stages::patch::Patch::ring_starts` meets its contract: each start is the sum of the lengths before it. Assumes nothing.
use Rattle.std.proofs.Common.{◌≡◌, replicate}
use Rattle.magnetron.specs.Signals.{window}
use Rattle.stages.specs.Rings.{len_in, ring_at}
use Rattle.stages.proofs.EndToEnd.{Summed}
use Rattle.stages.proofs.patch.Patch.ring_starts.Given as goal

abbrev pub invariant-loop-k : goal.invariant-loop-k
invariant-loop-k l = (Summed (len_in l.self) l.self.count l.k l.end) × (l.at ≡ window (replicate 32 0) 0 l.k (ring_at l.self))
