-- What a kind of stage is made of beside its out_level, by the kind's number. Definitions only. Assumes nothing.
use Rattle.std.specs.Prelude.{ℕ, cond, List, [], ◌∷◌, Option, None, Some, ltb, get_or}
use Rattle.flat.specs.declared.form.Form.{Form}

-- A column to a kind: Pass, Pow3, Clip, LowPass, LowPass2, HighPass, HighPass2, BandPass, Notch, AllPass, plain oscillator,
-- modulated oscillator, waveguide, RingModulator, Pan.

-- waveforms, or reflectances
abbrev choices : List ℕ
choices = 0 ∷ 0 ∷ 0 ∷ 0 ∷ 0 ∷ 0 ∷ 0 ∷ 0 ∷ 0 ∷ 0 ∷ 5 ∷ 5 ∷ 2 ∷ 0 ∷ 0 ∷ []

abbrev modulations : List ℕ
modulations = 0 ∷ 0 ∷ 0 ∷ 0 ∷ 0 ∷ 0 ∷ 0 ∷ 0 ∷ 0 ∷ 0 ∷ 0 ∷ 2 ∷ 0 ∷ 0 ∷ 0 ∷ []

-- a waveguide's buffer_size
abbrev sizes : List ℕ
sizes = 0 ∷ 0 ∷ 0 ∷ 0 ∷ 0 ∷ 0 ∷ 0 ∷ 0 ∷ 0 ∷ 0 ∷ 0 ∷ 0 ∷ 1 ∷ 0 ∷ 0 ∷ []

abbrev inputs : List ℕ
inputs = 1 ∷ 1 ∷ 1 ∷ 1 ∷ 1 ∷ 1 ∷ 1 ∷ 1 ∷ 1 ∷ 1 ∷ 0 ∷ 1 ∷ 1 ∷ 2 ∷ 1 ∷ []

abbrev outputs : List ℕ
outputs = 1 ∷ 1 ∷ 1 ∷ 1 ∷ 1 ∷ 1 ∷ 1 ∷ 1 ∷ 1 ∷ 1 ∷ 1 ∷ 1 ∷ 1 ∷ 1 ∷ 2 ∷ []

-- beside out_level, as the Rust's record lists them; Pan's right level, left gain and right gain
abbrev parameters : List ℕ
parameters = 0 ∷ 0 ∷ 1 ∷ 1 ∷ 2 ∷ 1 ∷ 2 ∷ 2 ∷ 2 ∷ 2 ∷ 2 ∷ 2 ∷ 3 ∷ 0 ∷ 3 ∷ []

abbrev pub form_of : ℕ → Form
form_of kind =
    record {
      choices = get_or choices kind 0;
      modulations = get_or modulations kind 0;
      sizes = get_or sizes kind 0;
      inputs = get_or inputs kind 0;
      outputs = get_or outputs kind 0;
      parameters = get_or parameters kind 0;
    }

abbrev pub kind_count : ℕ
kind_count = 15

abbrev pub formed_of : ℕ → Option Form
formed_of kind = cond (ltb kind kind_count) (Some (form_of kind)) None
