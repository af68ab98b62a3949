-- `engine::run::run` meets its contract: refused as judged, or rendered along the order. Assumes nothing.
use mathlib.Core.Path.{◌∙◌}
use Rattle.engine.specs.Run.{after_by, run_of}
use Rattle.engine.proofs.Judged.{judged-passed, passed_all}
use Rattle.engine.proofs.Ends.{after-refused, after-done}
use Rattle.engine.proofs.run.run.Goals as goal

pub returns-in-Err : goal.returns-in-Err
unfolding run_of after_by
returns-in-Err c =
    rw (c.all_within.ensures, ← c.render_window.ensures) (after-refused _ _ _ _ _ c.in-Err.ensures)

pub run_order-requires : goal.run_order-requires
run_order-requires c = passed_all _ c.args.zeros.now _ _ (judged-passed _ _ _ _ c.in_default.ensures)

pub returns : goal.returns
unfolding run_of
returns c =
    rw (← c.render_window.ensures)
    (c.run_order.ensures ∙ after-done _ _ _ _ (judged-passed _ _ _ _ c.in_default.ensures))
