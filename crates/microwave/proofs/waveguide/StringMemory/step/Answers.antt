-- `microwave::waveguide::StringMemory::step` meets its contract, by the comb's, whose parts are the string's. Assumes nothing.
use Rattle.std.proofs.Common.{ap, ◌∙◌}
use Rattle.util.specs.Interaction.{over}
use Rattle.util.specs.Comb.{TunedComb, tuned_step}
use Rattle.microwave.specs.Waveguide.{left_by, string_step}
use Rattle.microwave.proofs.waveguide.StringMemory.step.Goals as goal

pub process_sample_at-sample-requires : goal.process_sample_at-sample-requires
process_sample_at-sample-requires c =
    (rw c.comb.ensures c.requires.position, c.requires.short, c.requires.delay)

pub returns : goal.returns
unfolding string_step
returns c =
    let a = c.args in
    ap (over left_by) (c.process_sample_at-sample.ensures ∙ ap (λ (d : TunedComb). tuned_step a.k.delay d a.ring.now a.input) c.comb.ensures)
