-- `flat::patch::patch_of` meets its contract: the loop's invariant is `Naming`. Assumes nothing.
use Rattle.flat.proofs.patch.Naming.{Naming}
use Rattle.flat.proofs.patch.patch_of.Given as goal

abbrev pub invariant-loop-k : goal.invariant-loop-k
invariant-loop-k l = Naming l.flat l.looked l.patch l.k
