use mathlib.Core.Path.{◌∙◌}
use Rattle.magnetron.proofs.Writing.{writing_more}
use Rattle.magnetron.proofs.content.Kept.{content_kept}
use Rattle.magnetron.proofs.content.lay.Goals as goal

pub loop-i-preserved : goal.loop-i-preserved
loop-i-preserved c d clear v =
    let a = c.args in
    let u = c.loop-i.invariant d clear v in
    writing_more u c.loop-i-test.true (c.sample-x.ensures ∙ content_kept u c.loop-i.i c.loop-i-test.true a.content a.other.now clear) c.write_sample.ensures
