use native.Mathlib.Omega.{arith}
use Rattle.engine.proofs.Lists.{below_at}
use Rattle.engine.proofs.Faults.{stages_stop, stages_go}
use Rattle.engine.proofs.check.check_stages.Goals as goal

pub bounds-records-k : goal.bounds-records-k
bounds-records-k c =
    omega (arith, below_at c.args.records.now.patch.count c.args.order.now c.requires.1 c.loop-x.x-index c.loop-x-test.true, c.requires.0)

pub returns-in-Err : goal.returns-in-Err
returns-in-Err c = stages_stop _ _ _ _ c.loop-x.invariant c.loop-x-test.true c.in-Err.ensures

pub loop-x-preserved : goal.loop-x-preserved
loop-x-preserved c =
    stages_go _ _ _ _ c.loop-x.invariant _ c.loop-x-test.true c.in_default.ensures (rw c.outputs.ensures at c.clear-marks.ensures)
