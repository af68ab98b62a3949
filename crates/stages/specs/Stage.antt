-- What each kind of stage reads, asks for and remembers, what it works out at the start of a window, and what it does at each sample.
-- This is the file to extend for another kind: the checks, the run and the order of stages know none.
-- Definitions only. Assumes nothing.
use Rattle.std.specs.Prelude.{ℕ, ◌+◌, Bool, true, ◌&&◌, List, [], ◌∷◌, replicate, pos, nat_le, nat_lt, Float, Option, None, Some}
use Rattle.std.specs.Float.{binary64}
use Rattle.std.specs.Float.Ieee.{mul, of_int}
use Rattle.numbers.specs.Constants.{zero64}
use Rattle.magnetron.specs.declared.buffer.BufferIndex.{BufferIndex}
use Rattle.microwave.specs.declared.parameter.Parameter.{Parameter}
use Rattle.microwave.specs.declared.parameter.Ask.{Ask}
use Rattle.microwave.specs.declared.parameter.Numbers.{Numbers}
use Rattle.microwave.specs.declared.oscillator.Phases.{Phases}
use Rattle.microwave.specs.declared.oscillator.OscillatorSpec.{OscillatorSpec}
use Rattle.microwave.specs.declared.filter.OnePoleMemory.{OnePoleMemory}
use Rattle.microwave.specs.declared.filter.Biquad.{Biquad}
use Rattle.microwave.specs.declared.filter.FilterMachine.{FilterMachine}
use Rattle.microwave.specs.declared.filter.FilterMachine.TheVariants as filter
use Rattle.microwave.specs.declared.plain.Shape.TheVariants as shape
use Rattle.microwave.specs.declared.waveguide.WaveguideSpec.{WaveguideSpec}
use Rattle.microwave.specs.declared.waveguide.Guide.{Guide}
use Rattle.microwave.specs.Parameter.{required, or_zero, or_one, of_pair}
use Rattle.microwave.specs.OnePole.{one_pole_next, one_pole_out}
use Rattle.microwave.specs.Filter.{filter_asks, with_numbers, machine_of, biquad_next, biquad_out}
use Rattle.microwave.specs.Oscillator as oscillators
use Rattle.microwave.specs.Oscillator.{Driven, d_phase_of, oscillator_next, oscillator_out}
use Rattle.microwave.specs.Plain.{clip_limit, shaped_of, gained}
use Rattle.microwave.specs.Waveguide.{Strung, strung, guide_of, string_next, string_out}
use Rattle.stages.specs.declared.kind.Kind.{Kind}
use Rattle.stages.specs.declared.kind.Kind.TheVariants.{Pass, Pow3, Clip, Filter, Oscillator, ModOscillator, Waveguide, RingModulator, Pan}
use Rattle.stages.specs.declared.kind.Side.{Side}
use Rattle.stages.specs.declared.stage.Stage.{Stage}
use Rattle.stages.specs.declared.state.State.{State}
use Rattle.stages.specs.declared.state.States.{States}
use Rattle.stages.specs.declared.window.RenderWindow.{RenderWindow}
use Rattle.stages.specs.declared.machine.Machine.{Machine}
use Rattle.stages.specs.declared.machine.Machine.TheVariants as machine

-- ---- buffers and parameters

-- the buffers that a stage reads
abbrev pub inputs_of : Kind → List BufferIndex
inputs_of (Pass a) = a ∷ []
inputs_of (Pow3 a) = a ∷ []
inputs_of (Clip a limit) = a ∷ []
inputs_of (Filter a f) = a ∷ []
inputs_of (Oscillator o) = []
inputs_of (ModOscillator a o m) = a ∷ []
inputs_of (Waveguide a g) = a ∷ []
inputs_of (RingModulator a b) = a ∷ b ∷ []
inputs_of (Pan a gain right) = a ∷ []

-- the output that a kind has beside the stage's own: Pan's right one. The stage's own output and out_level are then the left ones.
abbrev pub second_of : Kind → Option Side
second_of (Pass a) = None
second_of (Pow3 a) = None
second_of (Clip a limit) = None
second_of (Filter a f) = None
second_of (Oscillator o) = None
second_of (ModOscillator a o m) = None
second_of (Waveguide a g) = None
second_of (RingModulator a b) = None
second_of (Pan a gain right) = Some right

-- the buffers that a stage writes
abbrev pub outputs_by : Option Side → BufferIndex → List BufferIndex
outputs_by None output = output ∷ []
outputs_by (Some side) output = output ∷ side.output ∷ []

abbrev pub outputs_of : Stage → List BufferIndex
outputs_of stage = outputs_by (second_of stage.kind) stage.output

-- the parameters that it asks for beside its levels, as the Rust's record lists them. "Only out_level and phase may be absent."
abbrev pub oscillator_asks : OscillatorSpec → List Ask
oscillator_asks o = required o.frequency ∷ or_zero o.phase ∷ []

abbrev pub waveguide_asks : WaveguideSpec → List Ask
waveguide_asks g = required g.frequency ∷ required g.cutoff ∷ required g.feedback ∷ []

-- "a left and a right gain"
abbrev pub pan_asks : Parameter → Side → List Ask
pan_asks gain right = required gain ∷ required right.gain ∷ []

abbrev pub asks_of : Kind → List Ask
asks_of (Pass a) = []
asks_of (Pow3 a) = []
asks_of (Clip a limit) = required limit ∷ []
asks_of (Filter a f) = filter_asks f
asks_of (Oscillator o) = oscillator_asks o
asks_of (ModOscillator a o m) = oscillator_asks o
asks_of (Waveguide a g) = waveguide_asks g
asks_of (RingModulator a b) = []
asks_of (Pan a gain right) = pan_asks gain right

-- and the levels of its outputs: "out_level, 1.0 if absent", or "an optional pair of out levels"
abbrev pub levels_by : Option Side → Parameter → List Ask
levels_by None level = or_one level ∷ []
levels_by (Some side) level = of_pair level side.out_level ∷ of_pair side.out_level level ∷ []

abbrev pub level_asks : Stage → List Ask
level_asks stage = levels_by (second_of stage.kind) stage.out_level

-- ---- what a stage has to itself: its state record, and its ring if it is a waveguide

pub record Own : Type 0 where
  pub state : State
  pub ring : List Float

abbrev pub own : State → List Float → Own
own s ring = record { state = s; ring = ring }

-- "new, it is all zero"
abbrev pub new_state : State
new_state = record {
  oscillator = record { phase = zero64; saved = zero64 };
  one_pole = record { low = zero64; high = zero64; last_input = zero64 };
  biquad = record { y1 = zero64; y2 = zero64; x1 = zero64; x2 = zero64 };
  waveguide = record { low_pass = zero64; position = 0 };
}

abbrev pub new_states : States
new_states = record { stages = replicate 32 new_state }

-- "ring length is one more"
abbrev pub ring_len : Kind → ℕ
ring_len (Pass a) = 0
ring_len (Pow3 a) = 0
ring_len (Clip a limit) = 0
ring_len (Filter a f) = 0
ring_len (Oscillator o) = 0
ring_len (ModOscillator a o m) = 0
ring_len (Waveguide a g) = g.buffer_size + 1
ring_len (RingModulator a b) = 0
ring_len (Pan a gain right) = 0

-- not 4, of one stage: "a buffer_size is over its bound .. or a stored position isn't below its ring length"
abbrev pub ring_fine : Kind → State → Bool
ring_fine (Pass a) s = true
ring_fine (Pow3 a) s = true
ring_fine (Clip a limit) s = true
ring_fine (Filter a f) s = true
ring_fine (Oscillator o) s = true
ring_fine (ModOscillator a o m) s = true
ring_fine (Waveguide a g) s = nat_le g.buffer_size 32767 && nat_lt s.waveguide.position (g.buffer_size + 1)
ring_fine (RingModulator a b) s = true
ring_fine (Pan a gain right) s = true

-- ---- the window, and its start: the machine that its samples work with, one to an output, and what the stage keeps then. `q` are the numbers that answered its asks

-- "the window's seconds (sample width w times n)"
abbrev pub window_of : ℕ → Float → RenderWindow
window_of n width = record { buffer_len = n; sample_width_secs = width; render_window_secs = mul binary64 width (of_int binary64 (pos n)) }

abbrev pub filter_machine : FilterMachine → Machine
filter_machine (filter.OnePole k) = machine.OnePole k
filter_machine (filter.Biquad k) = machine.Biquad k

abbrev pub oscillator_machine : OscillatorSpec → Driven → Numbers → RenderWindow → State → Machine
oscillator_machine o d q window s =
    machine.Oscillator
    (record {
      oscillator_type = o.oscillator_type;
      driven = d;
      d_phase = d_phase_of q.first q.second s.oscillator.saved window.sample_width_secs window.buffer_len;
      sample_width = window.sample_width_secs;
    })

abbrev pub guide_in : WaveguideSpec → Numbers → RenderWindow → Guide
guide_in g q window = guide_of g.reflectance g.buffer_size q.first q.second q.third window.sample_width_secs

abbrev pub waveguide_machine : WaveguideSpec → Numbers → RenderWindow → Machine
waveguide_machine g q window = machine.Waveguide (guide_in g q window)

abbrev pub settled : Kind → Numbers → RenderWindow → State → Machine
settled (Pass a) q window s = machine.Plain shape.Pass
settled (Pow3 a) q window s = machine.Plain shape.Pow3
settled (Clip a limit) q window s = machine.Plain (shape.Clip (clip_limit q.first))
settled (Filter a f) q window s = filter_machine (machine_of (with_numbers f q.first q.second) window.sample_width_secs)
settled (Oscillator o) q window s = oscillator_machine o None q window s
settled (ModOscillator a o m) q window s = oscillator_machine o (Some m) q window s
settled (Waveguide a g) q window s = waveguide_machine g q window
settled (RingModulator a b) q window s = machine.Plain shape.RingModulator
settled (Pan a gain right) q window s = machine.Gain q.first

-- a machine to an output: "(s times left, s times right)"
abbrev pub machines_by : Option Side → Machine → Numbers → List Machine
machines_by None m q = m ∷ []
machines_by (Some side) m q = m ∷ machine.Gain q.second ∷ []

abbrev pub with_phases : State → Phases → State
with_phases s p = record { oscillator = p; one_pole = s.one_pole; biquad = s.biquad; waveguide = s.waveguide }

abbrev pub with_one_pole : State → OnePoleMemory → State
with_one_pole s m = record { oscillator = s.oscillator; one_pole = m; biquad = s.biquad; waveguide = s.waveguide }

abbrev pub with_biquad : State → Biquad → State
with_biquad s m = record { oscillator = s.oscillator; one_pole = s.one_pole; biquad = m; waveguide = s.waveguide }

-- "saved = phase", at the start of an empty window too
abbrev pub saved : Numbers → State → State
saved q s = with_phases s (oscillators.phase_saved s.oscillator q.second)

abbrev pub entered : Kind → Numbers → State → State
entered (Pass a) q s = s
entered (Pow3 a) q s = s
entered (Clip a limit) q s = s
entered (Filter a f) q s = s
entered (Oscillator o) q s = saved q s
entered (ModOscillator a o m) q s = saved q s
entered (Waveguide a g) q s = s
entered (RingModulator a b) q s = s
entered (Pan a gain right) q s = s

-- ---- one sample: what a machine keeps, and what it answers, given one sample of each input. "a run changes only its own kind's part"

-- a stage with fewer than two inputs hears 0.0 in their place, and does not listen
pub record Hears : Type 0 where
  pub first : Float
  pub second : Float

abbrev pub hear : Float → Float → Hears
hear first second = record { first = first; second = second }

abbrev pub strung_of : Own → Strung
strung_of o = strung o.state.waveguide o.ring

abbrev pub with_strung : Own → Strung → Own
with_strung o t = own (record { oscillator = o.state.oscillator; one_pole = o.state.one_pole; biquad = o.state.biquad; waveguide = t.memory }) t.ring

abbrev pub next_of : Machine → Own → Hears → Own
next_of (machine.Plain k) o x = o
next_of (machine.Oscillator k) o x = own (with_phases o.state (oscillator_next k o.state.oscillator x.first)) o.ring
next_of (machine.OnePole k) o x = own (with_one_pole o.state (one_pole_next k o.state.one_pole x.first)) o.ring
next_of (machine.Biquad k) o x = own (with_biquad o.state (biquad_next k o.state.biquad x.first)) o.ring
next_of (machine.Waveguide k) o x = with_strung o (string_next k (strung_of o) x.first)
next_of (machine.Gain gain) o x = o

abbrev pub out_of : Machine → Own → Hears → Float
out_of (machine.Plain k) o x = shaped_of k x.first x.second
out_of (machine.Oscillator k) o x = oscillator_out k o.state.oscillator x.first
out_of (machine.OnePole k) o x = one_pole_out k o.state.one_pole x.first
out_of (machine.Biquad k) o x = biquad_out k o.state.biquad x.first
out_of (machine.Waveguide k) o x = string_out k (strung_of o) x.first
out_of (machine.Gain gain) o x = gained gain x.first
