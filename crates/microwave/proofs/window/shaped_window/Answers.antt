use Rattle.std.proofs.Common.{◌∙◌, ap₂}
use Rattle.magnetron.proofs.Writing.{as_at_first, writing_more}
use Rattle.microwave.proofs.window.shaped_window.Goals as goal

pub loop-i-preserved : goal.loop-i-preserved
loop-i-preserved g c d clear v =
    let a = c.args in
    let u = c.loop-i.invariant d clear v in
    let first = as_at_first u c.loop-i-test.true a.first a.other.now clear.0 c.fetch-x.ensures in
    let second = as_at_first u c.loop-i-test.true a.second a.other.now clear.1 c.fetch-y.ensures in
    writing_more u c.loop-i-test.true (c.shape.ensures ∙ ap₂ (g.S.Shaping.shaped_by a.shape) first second) c.write_sample.ensures
