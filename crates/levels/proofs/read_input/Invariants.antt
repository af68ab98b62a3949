-- `levels::read_input` is safe and ends: each piece that is accepted adds samples, and there are never more than 4,294,967,295. Assumes nothing.
use mathlib.Core.Path.{◌≡◌}
use Prim.Native.Nat.{◌+◌, ◌-◌}
use lib.ListN.{length}
use Rattle.report.specs.Report.{most}
use Rattle.levels.proofs.read_input.Given as goal

abbrev pub invariant-loop-count : goal.invariant-loop-count
invariant-loop-count l = length l.bytes ≡ length l.initial.bytes

abbrev pub decreases-loop-count : goal.decreases-loop-count
decreases-loop-count l = most + 1 - l.report.samples
