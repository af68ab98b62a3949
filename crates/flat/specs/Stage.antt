-- Which stage plain numbers name. Tables are read from number 0 on; past its end the last entry stands, and `named_of` lets no such number through.
-- Assumes nothing.
use Rattle.std.specs.Prelude.{ℕ, ◌-◌, Bool, true, cond, ◌&&◌, Option, None, Some, List, [], ◌∷◌, ltb, eqb, get_or}
use Rattle.std.specs.Float.{binary64}
use Rattle.std.specs.Float.Ieee.{of_bits}
use Rattle.magnetron.specs.Buffers.{buffer_of}
use Rattle.microwave.specs.declared.parameter.Parameter.{Parameter}
use Rattle.microwave.specs.declared.parameter.Parameter.TheVariants.{Fixed, Slot, WindowSeconds, Absent}
use Rattle.microwave.specs.declared.filter.Filter.{Filter}
use Rattle.microwave.specs.declared.filter.Filter.TheVariants as filter
use Rattle.microwave.specs.declared.oscillator.OscillatorType.{OscillatorType}
use Rattle.microwave.specs.declared.oscillator.OscillatorType.TheVariants.{Sin, Sin3, Triangle, Square, Sawtooth}
use Rattle.microwave.specs.declared.oscillator.Modulation.{Modulation}
use Rattle.microwave.specs.declared.oscillator.Modulation.TheVariants.{ByPhase, ByFrequency}
use Rattle.microwave.specs.declared.oscillator.OscillatorSpec.{OscillatorSpec}
use Rattle.microwave.specs.declared.waveguide.Reflectance.{Reflectance}
use Rattle.microwave.specs.declared.waveguide.Reflectance.TheVariants.{Positive, Negative}
use Rattle.microwave.specs.declared.waveguide.WaveguideSpec.{WaveguideSpec}
use Rattle.stages.specs.declared.kind.Kind.{Kind}
use Rattle.stages.specs.declared.kind.Kind.TheVariants as kind
use Rattle.stages.specs.declared.kind.Side.{Side}
use Rattle.stages.specs.declared.stage.Stage.{Stage}
use Rattle.flat.specs.declared.form.Form.{Form}
use Rattle.flat.specs.declared.stage.FlatParameter.{FlatParameter}
use Rattle.flat.specs.declared.stage.FlatStage.{FlatStage}
use Rattle.flat.specs.Form.{formed_of}

-- by its mark: absent, the number of these bits, the slot, the window's seconds
unfoldable pub parameter_of : FlatParameter → Parameter
parameter_of p = get_or (Absent ∷ Fixed (of_bits binary64 p.bits) ∷ Slot p.slot ∷ []) p.mark WindowSeconds

-- ---- choices, as the Rust lists them

unfoldable pub waveform_of : ℕ → OscillatorType
waveform_of number = get_or (Sin ∷ Sin3 ∷ Triangle ∷ Square ∷ []) number Sawtooth

unfoldable pub modulation_of : ℕ → Modulation
modulation_of number = get_or (ByPhase ∷ []) number ByFrequency

unfoldable pub reflectance_of : ℕ → Reflectance
reflectance_of number = get_or (Positive ∷ []) number Negative

-- ---- kinds

-- the filters, numbered from 3 on as filter.rs lists them
unfoldable pub filter_of : ℕ → Parameter → Parameter → Filter Parameter
filter_of kind a b =
    get_or
    (filter.LowPass a
    ∷ filter.LowPass2 a b
    ∷ filter.HighPass a
    ∷ filter.HighPass2 a b
    ∷ filter.BandPass a b
    ∷ filter.Notch a b
    ∷ [])
    (kind - 3)
    (filter.AllPass a b)

abbrev pub oscillator_of : FlatStage → OscillatorSpec
oscillator_of f = record { oscillator_type = waveform_of f.choice; frequency = parameter_of f.first; phase = parameter_of f.second }

abbrev pub waveguide_of : FlatStage → WaveguideSpec
waveguide_of f =
    record {
      buffer_size = f.buffer_size;
      frequency = parameter_of f.first;
      cutoff = parameter_of f.second;
      feedback = parameter_of f.third;
      reflectance = reflectance_of f.choice;
    }

-- a filter on the first input
abbrev pub filtered : FlatStage → Kind
filtered f = kind.Filter (buffer_of f.first_input) (filter_of f.kind (parameter_of f.first) (parameter_of f.second))

-- Pan's right side: "a left and a right gain, an optional pair of out levels"; the stage's own output and out_level are the left ones
abbrev pub right_of : FlatStage → Side
right_of f = record { output = buffer_of f.second_output; out_level = parameter_of f.first; gain = parameter_of f.third }

abbrev pub pan_of : FlatStage → Kind
pan_of f = kind.Pan (buffer_of f.first_input) (parameter_of f.second) (right_of f)

-- the kinds by number; after them, Pan
unfoldable pub kinds : FlatStage → List Kind
kinds f =
    kind.Pass (buffer_of f.first_input)
    ∷ kind.Pow3 (buffer_of f.first_input)
    ∷ kind.Clip (buffer_of f.first_input) (parameter_of f.first)
    ∷ filtered f
    ∷ filtered f
    ∷ filtered f
    ∷ filtered f
    ∷ filtered f
    ∷ filtered f
    ∷ filtered f
    ∷ kind.Oscillator (oscillator_of f)
    ∷ kind.ModOscillator (buffer_of f.first_input) (oscillator_of f) (modulation_of f.modulation)
    ∷ kind.Waveguide (buffer_of f.first_input) (waveguide_of f)
    ∷ kind.RingModulator (buffer_of f.first_input) (buffer_of f.second_input)
    ∷ []

unfoldable pub kind_of : FlatStage → Kind
kind_of f = get_or (kinds f) f.kind (pan_of f)

-- ---- which numbers are known

-- one of `limit`, where there is something to choose
abbrev pub chosen_of : ℕ → ℕ → Bool
chosen_of limit choice = cond (eqb limit 0) true (ltb choice limit)

-- one of the four marks, where the kind has the parameter
abbrev pub marked_of : Bool → FlatParameter → Bool
marked_of has p = cond has (ltb p.mark 4) true

-- what the kind has is known; what it does not have is not looked at
abbrev pub known_of : Form → FlatStage → Bool
known_of form f =
    chosen_of form.choices f.choice
    && chosen_of form.modulations f.modulation
    && marked_of true f.out_level
    && marked_of (ltb 0 form.parameters) f.first
    && marked_of (ltb 1 form.parameters) f.second
    && marked_of (ltb 2 form.parameters) f.third

abbrev pub stage_from : FlatStage → Stage
stage_from f = record { kind = kind_of f; output = buffer_of f.output; out_level = parameter_of f.out_level }

-- no stage where there is no such kind, or where one of its numbers is not known
unfoldable pub named_by : Option Form → FlatStage → Option Stage
named_by (Some form) f = cond (known_of form f) (Some (stage_from f)) None
named_by None f = None

unfoldable pub named_of : FlatStage → Option Stage
named_of f = named_by (formed_of f.kind) f
