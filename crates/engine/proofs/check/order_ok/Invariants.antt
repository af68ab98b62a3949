-- `engine::check::order_ok` meets its contract: the length, then each number and whether it was seen. Assumes nothing.
use mathlib.Core.Path.{◌≡◌}
use Prim.Native.Nat.{◌^◌, ◌<◌}
use lib.ListN.{drop}
use Rattle.engine.specs.Run.{all_below, repeats}
use Rattle.engine.proofs.Seen.{again}
use Rattle.engine.proofs.check.order_ok.Given as goal

abbrev pub invariant-loop-j : goal.invariant-loop-j
invariant-loop-j l = (all_below l.count (drop l.j l.order) ≡ all_below l.count l.order) × (again l.seen (drop l.j l.order) ≡ repeats l.order) × (l.seen < 2 ^ 32)
