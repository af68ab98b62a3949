-- `report::report::Report::with_all` meets its contract. The loop's invariant: what is still to come, added to the report so far, is what the
-- whole gives, and there is room for it. Assumes nothing.
use mathlib.Core.Path.{◌≡◌}
use mathlib.Core.List.{map}
use Prim.Native.Nat.{◌+◌, ◌-◌, ◌≤◌}
use lib.ListN.{length, drop}
use Rattle.report.specs.Report.{most, fullest, after}
use Rattle.report.proofs.report.Report.with_all.Given as goal

abbrev pub invariant-loop-sample : goal.invariant-loop-sample
invariant-loop-sample g l = (fullest l.report + (length l.samples - l.sample-index) ≤ most)
    × (after l.report (map g.S.Sample.bits_by (drop l.sample-index l.samples)) ≡ after l.initial.report (map g.S.Sample.bits_by l.samples))
