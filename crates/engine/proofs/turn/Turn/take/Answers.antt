-- `engine::turn::Turn::take` meets its contract: the stage's own output, and a second one where there is one. Assumes nothing.
use mathlib.Core.Path.{sym, ◌∙◌}
use Rattle.engine.proofs.turn.Turns.{one-done, second_wired, second-done}
use Rattle.engine.proofs.turn.Turn.take.Goals as goal

pub returns-in_default-clause-turned : goal.returns-in_default-clause-turned
returns-in_default-clause-turned c = one-done _ _ _ _ _ _ _ _ c.begin-taken.ensures.begun (sym c.in_default.is ∙ c.second.ensures)

pub render_second-requires : goal.render_second-requires
render_second-requires c =
    second_wired _ _ _ _ _ _ _ _ c.begin-taken.ensures.begun c.requires c.begin-taken.auto.internal c.begin-taken.auto.external
    (sym c.in-Some.is ∙ c.second.ensures) c.in-External.is

pub returns-in-External-clause-turned : goal.returns-in-External-clause-turned
returns-in-External-clause-turned c =
    second-done _ _ _ _ _ _ _ _ c.begin-taken.ensures.begun c.requires c.begin-taken.auto.internal c.begin-taken.auto.external
    (sym c.in-Some.is ∙ c.second.ensures) c.in-External.is _ c.render_second.ensures

pub render_second-requires-in-Internal : goal.render_second-requires-in-Internal
render_second-requires-in-Internal c =
    second_wired _ _ _ _ _ _ _ _ c.begin-taken.ensures.begun c.requires c.begin-taken.auto.internal c.begin-taken.auto.external
    (sym c.in-Some.is ∙ c.second.ensures) c.in-Internal.is

pub returns-in-Internal-clause-turned : goal.returns-in-Internal-clause-turned
returns-in-Internal-clause-turned c =
    second-done _ _ _ _ _ _ _ _ c.begin-taken.ensures.begun c.requires c.begin-taken.auto.internal c.begin-taken.auto.external
    (sym c.in-Some.is ∙ c.second.ensures) c.in-Internal.is _ c.render_second-in-Internal.ensures
