-- What the machine of a stage tells of its ring is what the definition says of the stage's kind: no state has a part in it. Assumes nothing.
use Rattle.std.proofs.Common.{◌≡◌, refl}
use Rattle.util.specs.declared.reach.Reach.TheVariants.{Within}
use Rattle.microwave.specs.declared.parameter.Numbers.{Numbers}
use Rattle.microwave.specs.declared.filter.FilterMachine.{FilterMachine}
use Rattle.microwave.specs.declared.filter.FilterMachine.TheVariants as filter
use Rattle.microwave.specs.Filter.{with_numbers, machine_of}
use Rattle.stages.specs.declared.kind.Kind.{Kind}
use Rattle.stages.specs.declared.kind.Kind.TheVariants.{Pass, Pow3, Clip, Filter, Oscillator, ModOscillator, Waveguide, RingModulator, Pan}
use Rattle.stages.specs.declared.state.State.{State}
use Rattle.stages.specs.declared.window.RenderWindow.{RenderWindow}
use Rattle.stages.specs.Stage.{filter_machine, settled}
use Rattle.stages.specs.Reach.{reach_by, last_reach}
use Rattle.stages.specs.Inside.{ring_reach, reach_over}

no_ring : (m : FilterMachine) → ring_reach (filter_machine m) ≡ Within
no_ring (filter.OnePole k) = refl
no_ring (filter.Biquad k) = refl

module _ (q : Numbers) (window : RenderWindow) (s : State) where
  settled_by : (kind : Kind) → ring_reach (settled kind q window s) ≡ reach_by kind q window
  settled_by (Pass a) = refl
  settled_by (Pow3 a) = refl
  settled_by (Clip a limit) = refl
  settled_by (Filter a f) = no_ring (machine_of (with_numbers f q.first q.second) window.sample_width_secs)
  settled_by (Oscillator o) = refl
  settled_by (ModOscillator a o m) = refl
  settled_by (Waveguide a g) = refl
  settled_by (RingModulator a b) = refl
  settled_by (Pan a gain right) = refl

  pub settled_reach : (kind : Kind) → reach_over window.buffer_len (settled kind q window s) ≡ last_reach kind q window
  settled_reach kind = rw (settled_by kind)
