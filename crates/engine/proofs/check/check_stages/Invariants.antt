-- `engine::check::check_stages` meets its contract: the stages so far have passed, with the marks as they leave them. Assumes nothing.
use mathlib.Core.Path.{◌≡◌}
use lib.ListN.{drop}
use Rattle.order.specs.Checks.{verdict}
use Rattle.magnetron.specs.Pools.{marks_in}
use Rattle.engine.specs.Run.{fault, turned}
use Rattle.engine.specs.Inside.{plan_in}
use Rattle.engine.proofs.check.check_stages.Given as goal

abbrev pub invariant-loop-x : goal.invariant-loop-x
invariant-loop-x l =
    verdict (fault (plan_in l.records l.values)) (turned (plan_in l.records l.values)) (drop l.x-index l.order) l.marks
    ≡ verdict (fault (plan_in l.records l.values)) (turned (plan_in l.records l.values)) l.order (marks_in l.records.pools)
