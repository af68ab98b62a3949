use Rattle.std.proofs.Common.{ap, refl}
use Rattle.std.proofs.Common.{replicate}
use Rattle.stages.specs.declared.stage.Stage.{Stage}
use Rattle.flat.proofs.patch.Naming.{naming_start, naming_more, read_stopped, read_all}
use Rattle.flat.proofs.patch.patch_of.Goals as goal

pub loop-k-init : goal.loop-k-init
loop-k-init c = naming_start _ _ _ (c.looked_at-looked.ensures.1) refl (ap (λ (t : Stage). replicate 32 t) (c.blank_stage-blank.ensures))

pub returns-in_default : goal.returns-in_default
returns-in_default c = read_stopped _ _ (c.looked_at-looked.ensures.0) _ _ _ (c.loop-k-test.true) (c.loop-k.invariant) (c.stage_of.ensures) (c.in_default.is)

pub loop-k-preserved : goal.loop-k-preserved
loop-k-preserved c = naming_more _ _ _ _ _ _ (c.loop-k-test.true) (c.loop-k.invariant) (c.stage_of.ensures) (c.in-Some.is)

pub returns : goal.returns
returns c = read_all _ _ (c.looked_at-looked.ensures.0) _ _ (c.loop-k-test.false) (c.loop-k.invariant)
