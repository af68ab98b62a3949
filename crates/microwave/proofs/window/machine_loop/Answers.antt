use Rattle.std.proofs.Common.{refl, ap, ◌∙◌}
use Rattle.util.specs.declared.step.Step.{Step}
use Rattle.microwave.specs.Running.{Running}
use Rattle.microwave.proofs.window.Loops.{looped_start, looped_more}
use Rattle.microwave.proofs.window.machine_loop.Goals as goal

pub loop-i-init : goal.loop-i-init
loop-i-init g c = record {
  looped = looped_start c.requires.lies_in.0 c.requires.lies_in.1;
  can_step = c.requires.can_step;
  long = refl;
}

pub loop-i-preserved : goal.loop-i-preserved
loop-i-preserved g c =
    let value = c.step-stepped.ensures.value in
    record {
      looped = looped_more c.loop-i.invariant.looped c.loop-i-test.true c.fetch-x.ensures (ap (λ (r : Step (Running _)). r.next) value)
          (ap (λ (r : Step (Running _)). r.sample) value) c.write_sample.ensures;
      can_step = c.step-stepped.ensures.stays;
      long = c.step-stepped.ensures.long ∙ c.loop-i.invariant.long;
    }
