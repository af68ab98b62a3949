-- A guide's machine stays in its ring. Assumes nothing.
use Rattle.std.proofs.Common.{ap}
use Rattle.util.specs.declared.step.Step.{Step}
use Rattle.microwave.specs.Waveguide.{Strung}
use Rattle.microwave.proofs.Strings.{string_stays}
use Rattle.microwave.proofs.waveguide.GuideMachine.step.Goals as goal

pub returns-clause-stays : goal.returns-clause-stays
returns-clause-stays c =
    rw (ap (λ (r : Step Strung). r.next) c.step.ensures) (string_stays c.args.self _ c.args.input c.requires)
