-- `stages::patch::Patch::rings_ok` meets its contract: a ring at fault, or the sum of all lengths against the room. Assumes nothing.
use Rattle.std.proofs.Common.{◌≡◌, true}
use Rattle.stages.specs.Rings.{all_to, len_in, fine_in}
use Rattle.stages.proofs.EndToEnd.{Summed}
use Rattle.stages.proofs.patch.Patch.rings_ok.Given as goal

abbrev pub invariant-loop-k : goal.invariant-loop-k
invariant-loop-k l = (Summed (len_in l.self) l.self.count l.k l.end) × (all_to l.k (fine_in l.self l.states.stages) ≡ true)
