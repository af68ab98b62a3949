-- `engine::run::run_order` meets its contract: the invariant is that the stages so far are done as defined, and that those left still pass their checks (`Along`). Assumes nothing.
use Rattle.engine.specs.Inside.{plan_in, world_in, world_with}
use Rattle.engine.proofs.Along.{Along}
use Rattle.engine.proofs.run.run_order.Given as goal

abbrev pub invariant-loop-x : goal.invariant-loop-x
invariant-loop-x l =
    Along (plan_in l.records l.values) l.order (world_in l.records l.initial.internal l.initial.external l.initial.rings)
    (world_with l.marks l.states.stages l.internal l.external l.rings) l.activity l.reaches.stages l.x-index
