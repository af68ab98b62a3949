-- `engine::turn::Turn::begin` meets its contract: the output's kind picks the pool that is written, in the code and in the definition. Assumes nothing.
use Rattle.engine.proofs.turn.Turns.{ready_at, begun_at}
use Rattle.engine.proofs.turn.Turn.begin.Goals as goal

pub render-requires : goal.render-requires
render-requires c =
    ready_at c.in-External.is c.args.internal.now c.args.external.now c.requires

pub returns-in-External : goal.returns-in-External
returns-in-External c =
    record { reach_value = c.render.ensures.reach_value; begun = begun_at c.in-External.is _ _ _ c.render.ensures.begun }

pub render-requires-in-Internal : goal.render-requires-in-Internal
render-requires-in-Internal c =
    ready_at c.in-Internal.is c.args.internal.now c.args.external.now c.requires

pub returns-in-Internal : goal.returns-in-Internal
returns-in-Internal c =
    record { reach_value = c.render-in-Internal.ensures.reach_value; begun = begun_at c.in-Internal.is _ _ _ c.render-in-Internal.ensures.begun }
