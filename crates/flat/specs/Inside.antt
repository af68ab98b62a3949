-- What the private functions of `flat` promise: what is named, part by part, and nothing where a number that the part has is not known. Assumes nothing.
use Rattle.std.specs.Prelude.{ℕ, Bool, true, cond, ◌&&◌, Option, None, Some, ltb}
use Rattle.microwave.specs.declared.parameter.Parameter.{Parameter}
use Rattle.microwave.specs.declared.filter.Filter.{Filter}
use Rattle.microwave.specs.declared.oscillator.OscillatorType.{OscillatorType}
use Rattle.microwave.specs.declared.oscillator.Modulation.{Modulation}
use Rattle.microwave.specs.declared.oscillator.OscillatorSpec.{OscillatorSpec}
use Rattle.microwave.specs.declared.waveguide.Reflectance.{Reflectance}
use Rattle.microwave.specs.declared.waveguide.WaveguideSpec.{WaveguideSpec}
use Rattle.stages.specs.declared.kind.Kind.{Kind}
use Rattle.flat.specs.declared.form.Form.{Form}
use Rattle.flat.specs.declared.stage.FlatParameter.{FlatParameter}
use Rattle.flat.specs.declared.stage.FlatStage.{FlatStage}
use Rattle.flat.specs.Form.{form_of, kind_count}
use Rattle.flat.specs.Stage.{parameter_of, waveform_of, modulation_of, reflectance_of, filter_of, oscillator_of, waveguide_of, pan_of, kind_of, chosen_of, marked_of}

abbrev where_known : {A : Type 0} → Bool → A → Option A
where_known known a = cond known (Some a) None

abbrev pub named_parameter : FlatParameter → Option Parameter
named_parameter p = where_known (marked_of true p) (parameter_of p)

abbrev pub named_waveform : ℕ → Option OscillatorType
named_waveform number = where_known (chosen_of 5 number) (waveform_of number)

abbrev pub named_modulation : ℕ → Option Modulation
named_modulation number = where_known (chosen_of 2 number) (modulation_of number)

abbrev pub named_reflectance : ℕ → Option Reflectance
named_reflectance number = where_known (chosen_of 2 number) (reflectance_of number)

-- all but out_level, which every kind has
abbrev pub parts_known : Form → FlatStage → Bool
parts_known form f =
    chosen_of form.choices f.choice
    && chosen_of form.modulations f.modulation
    && marked_of (ltb 0 form.parameters) f.first
    && marked_of (ltb 1 form.parameters) f.second
    && marked_of (ltb 2 form.parameters) f.third

-- of a kind that is a filter
abbrev pub named_filter : FlatStage → Option (Filter Parameter)
named_filter f =
    where_known (ltb 2 f.kind && ltb f.kind 10 && parts_known (form_of f.kind) f) (filter_of f.kind (parameter_of f.first) (parameter_of f.second))

abbrev pub named_oscillator : FlatStage → Option OscillatorSpec
named_oscillator f = where_known (chosen_of 5 f.choice && marked_of true f.first && marked_of true f.second) (oscillator_of f)

abbrev pub named_waveguide : FlatStage → Option WaveguideSpec
named_waveguide f = where_known (chosen_of 2 f.choice && marked_of true f.first && marked_of true f.second && marked_of true f.third) (waveguide_of f)

abbrev pub named_pan : FlatStage → Option Kind
named_pan f = where_known (marked_of true f.first && marked_of true f.second && marked_of true f.third) (pan_of f)

abbrev pub named_kind : FlatStage → Option Kind
named_kind f = where_known (ltb f.kind kind_count && parts_known (form_of f.kind) f) (kind_of f)
