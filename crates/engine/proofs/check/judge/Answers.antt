-- `engine::check::judge` meets its contract: 1 to 4, then 5 to 8 along the order. Assumes nothing.
use mathlib.Core.Path.{◌≡◌, ◌∙◌}
use mathlib.Core.List.{[]}
use Rattle.std.proofs.Common.{rules, Err}
use Rattle.engine.specs.Inside.{plan_in, world_in}
use Rattle.engine.specs.Run.{entry}
use Rattle.engine.proofs.Entries.{entry-told}
use Rattle.engine.proofs.Judged.{entry_stops, entry-passed, entry_goes}
use Rattle.engine.proofs.check.judge.Goals as goal

pub returns-in_err-check_entry : goal.returns-in_err-check_entry
unfolding entry
returns-in_err-check_entry c =
    let same : c.from_residual.result ≡ Err c.in_err-check_entry.field-0.0 = search rules in
    same ∙ entry_stops _ _ _ _ c.in_err-check_entry.ensures

pub check_stages-requires : goal.check_stages-requires
unfolding entry
check_stages-requires c =
    let a = c.args in
    let P = plan_in a.records.now [] in
    let l = a.lent.now in
    let w = world_in a.records.now l.internal.now l.external.now l.rings.now in
    let t = entry-told P l.zeros.now l.order.now w (entry-passed P l.zeros.now l.order.now w c.in_ok-check_entry.ensures) in
    (t.few, t.below)

pub returns : goal.returns
unfolding entry
returns c = entry_goes _ _ _ _ c.in_ok-check_entry.ensures c.check_stages.ensures
