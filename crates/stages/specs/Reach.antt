-- Whether a stage's string reaches its note: what the read of its ring answers besides the samples of a window (02, Five).
-- Rests on the waveguide of `microwave`. Definitions only. Assumes nothing.
use Rattle.std.specs.Prelude.{cond, replicate, ◌==◌}
use Rattle.util.specs.declared.reach.Reach.{Reach}
use Rattle.util.specs.declared.reach.Reach.TheVariants.{Within}
use Rattle.microwave.specs.declared.parameter.Numbers.{Numbers}
use Rattle.stages.specs.declared.kind.Kind.{Kind}
use Rattle.stages.specs.declared.kind.Kind.TheVariants.{Pass, Pow3, Clip, Filter, Oscillator, ModOscillator, Waveguide, RingModulator, Pan}
use Rattle.stages.specs.declared.window.RenderWindow.{RenderWindow}
use Rattle.stages.specs.declared.reach.Reaches.{Reaches}
use Rattle.stages.specs.Stage.{guide_in}

-- "'within' for stages without a ring"; `q` are the numbers that answered the stage's asks
abbrev pub reach_by : Kind → Numbers → RenderWindow → Reach
reach_by (Pass a) q window = Within
reach_by (Pow3 a) q window = Within
reach_by (Clip a limit) q window = Within
reach_by (Filter a f) q window = Within
reach_by (Oscillator o) q window = Within
reach_by (ModOscillator a o m) q window = Within
reach_by (Waveguide a g) q window = (guide_in g q window).delay.reach
reach_by (RingModulator a b) q window = Within
reach_by (Pan a gain right) q window = Within

-- "the answer of its last sample, and 'within' for .. empty windows": every sample of a window is read at the same delay
abbrev pub last_reach : Kind → Numbers → RenderWindow → Reach
last_reach kind q window = cond (window.buffer_len == 0) Within (reach_by kind q window)

abbrev pub all_within : Reaches
all_within = record { stages = replicate 32 Within }
