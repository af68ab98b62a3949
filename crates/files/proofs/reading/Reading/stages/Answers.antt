use Rattle.std.proofs.Common.{◌∙◌, refl, ap}
use Rattle.flat.specs.declared.patch.FlatPatch.{FlatPatch}
use Rattle.files.proofs.Following.{handed}
use Rattle.files.proofs.reading.Staging.{staging_start, staging_more, staging_stop, staging_end}
use Rattle.files.proofs.reading.Reading.stages.Goals as goal

pub loop-k-init : goal.loop-k-init
loop-k-init c = (staging_start _ _ _ _ c.requires refl (ap (λ (p : FlatPatch). p.stages) c.empty-patch.ensures), refl)

pub returns-in_err-patch-clause-said : goal.returns-in_err-patch-clause-said
returns-in_err-patch-clause-said c =
    handed _ _ _ c.from_residual.ensures.1 ∙ rw (← c.loop-k.invariant.1) (staging_stop _ _ _ _ _ _ c.loop-k.invariant.0 _ _ c.loop-k-test.true c.in_err-patch.ensures.said)

pub loop-k-preserved : goal.loop-k-preserved
loop-k-preserved c =
    (rw c.in_ok-patch.ensures.kept (staging_more _ _ _ _ _ _ c.loop-k.invariant.0 _ _ c.loop-k-test.true c.in_ok-patch.ensures.said), c.in_ok-patch.ensures.kept ∙ c.loop-k.invariant.1)

pub returns-clause-said : goal.returns-clause-said
returns-clause-said c = rw (← c.loop-k.invariant.1) (staging_end _ _ _ _ _ _ c.loop-k.invariant.0 c.loop-k-test.false)
