-- The seven filters as the contracts have them: what each asks for, its machine for a window, and a biquad's step. The formulas are those of `Biquads` and `OnePole`,
-- read in f64; this file joins them to the code's records. Assumes nothing.
use Rattle.std.specs.Prelude.{List, [], ◌∷◌, from_bits, Float}
use Rattle.std.specs.Float.{binary64}
use Rattle.numbers.specs.Constants.{zero64, quarter64, half64}
use Rattle.numbers.specs.Small.{max_of, held_of}
use Rattle.numbers.specs.Turns.{sine_of, cosine_of}
use Rattle.util.specs.declared.step.Step.{Step}
use Rattle.util.specs.Interaction.{step}
use Rattle.microwave.specs.Arithmetic.{f64_arithmetic}
use Rattle.microwave.specs.Biquads as B
use Rattle.microwave.specs.OnePole.{low_pass_alpha, high_pass_alpha}
use Rattle.microwave.specs.Parameter.{required}
use Rattle.microwave.specs.declared.parameter.Parameter.{Parameter}
use Rattle.microwave.specs.declared.parameter.Ask.{Ask}
use Rattle.microwave.specs.declared.filter.Filter.{Filter}
use Rattle.microwave.specs.declared.filter.Filter.TheVariants.{LowPass, LowPass2, HighPass, HighPass2, BandPass, Notch, AllPass}
use Rattle.microwave.specs.declared.filter.OnePole.TheVariants as P
use Rattle.microwave.specs.declared.filter.Coefficients.{Coefficients}
use Rattle.microwave.specs.declared.filter.Biquad.{Biquad}
use Rattle.microwave.specs.declared.filter.Tuning.{Tuning}
use Rattle.microwave.specs.declared.filter.FilterMachine.{FilterMachine}
use Rattle.microwave.specs.declared.filter.FilterMachine.TheVariants as M
open f64_arithmetic use {◌⊗◌}

-- a filter of a patch
abbrev pub FilterType : Type 0
FilterType = Filter Parameter

-- "Each filter kind carries its own parameters", all of them required. A one_pole_family has no quality.
abbrev pub filter_asks : FilterType → List Ask
filter_asks (LowPass cutoff) = required cutoff ∷ []
filter_asks (LowPass2 resonance quality) = required resonance ∷ required quality ∷ []
filter_asks (HighPass cutoff) = required cutoff ∷ []
filter_asks (HighPass2 resonance quality) = required resonance ∷ required quality ∷ []
filter_asks (BandPass center quality) = required center ∷ required quality ∷ []
filter_asks (Notch center quality) = required center ∷ required quality ∷ []
filter_asks (AllPass corner quality) = required corner ∷ required quality ∷ []

-- a kind with a window's numbers in its parameters' place
abbrev pub with_numbers : FilterType → Float → Float → Filter Float
with_numbers (LowPass cutoff) frequency quality = LowPass frequency
with_numbers (LowPass2 resonance q) frequency quality = LowPass2 frequency quality
with_numbers (HighPass cutoff) frequency quality = HighPass frequency
with_numbers (HighPass2 resonance q) frequency quality = HighPass2 frequency quality
with_numbers (BandPass center q) frequency quality = BandPass frequency quality
with_numbers (Notch center q) frequency quality = Notch frequency quality
with_numbers (AllPass corner q) frequency quality = AllPass frequency quality

-- ---- a window's machine

-- the code's coefficients
abbrev pub coded : B.Coefficients Float → Coefficients
coded k = record { b0 = k.b0; b1 = k.b1; b2 = k.b2; a0 = k.a0; a1 = k.a1; a2 = k.a2 }

-- "f0 held to 0..0.25 for LowPass2 and HighPass2, 0..0.5 for the rest"
abbrev pub highest : B.Kind → Float
highest B.LowPass2 = quarter64
highest B.HighPass2 = quarter64
highest B.BandPass = half64
highest B.Notch = half64
highest B.AllPass = half64

-- "quality at least 1e-10"
abbrev pub least_quality : Float
least_quality = from_bits binary64 0x3ddb_7cdf_d9d7_bdbb

-- what a kind's coefficients are made of: the sine and the cosine are those of f0 turns
unfoldable pub tuned_to : Float → Float → Float → Float → Tuning
tuned_to frequency quality w highest =
    let q = max_of quality least_quality in
    let f0 = held_of (frequency ⊗ w) zero64 highest in
    record { cos = cosine_of f0; alpha = B.alpha_of f64_arithmetic (sine_of f0) q; quality = q }

abbrev pub coefficients_at : B.Kind → Tuning → Coefficients
coefficients_at kind t = coded (B.coefficients_of f64_arithmetic kind t.cos t.alpha t.quality)

abbrev pub biquad_at : B.Kind → Float → Float → Float → FilterMachine
biquad_at kind frequency quality w = M.Biquad (coefficients_at kind (tuned_to frequency quality w (highest kind)))

-- what a window of samples w seconds wide steps by
unfoldable pub machine_of : Filter Float → Float → FilterMachine
machine_of (LowPass cutoff) w = M.OnePole (P.LowPass (low_pass_alpha cutoff w))
machine_of (LowPass2 resonance quality) w = biquad_at B.LowPass2 resonance quality w
machine_of (HighPass cutoff) w = M.OnePole (P.HighPass (high_pass_alpha cutoff w))
machine_of (HighPass2 resonance quality) w = biquad_at B.HighPass2 resonance quality w
machine_of (BandPass center quality) w = biquad_at B.BandPass center quality w
machine_of (Notch center quality) w = biquad_at B.Notch center quality w
machine_of (AllPass corner quality) w = biquad_at B.AllPass corner quality w

-- ---- one sample of a biquad

-- the code's coefficients and memory in the definitions' words, and a step in the code's
abbrev pub told : Coefficients → B.Coefficients Float
told k = record { b0 = k.b0; b1 = k.b1; b2 = k.b2; a0 = k.a0; a1 = k.a1; a2 = k.a2 }

abbrev pub remembered : Biquad → B.Memory Float
remembered m = record { y1 = m.y1; y2 = m.y2; x1 = m.x1; x2 = m.x2 }

abbrev pub stepped : B.Step Float → Step Biquad
stepped s =
    let m = s.memory in
    step (record { y1 = m.y1; y2 = m.y2; x1 = m.x1; x2 = m.x2 }) s.sample

unfoldable pub biquad_step : Coefficients → Biquad → Float → Step Biquad
biquad_step k m x0 = stepped (B.step_of f64_arithmetic (told k) (remembered m) x0)

-- a step's two parts
abbrev pub biquad_next : Coefficients → Biquad → Float → Biquad
biquad_next k m x0 = (biquad_step k m x0).next

abbrev pub biquad_out : Coefficients → Biquad → Float → Float
biquad_out k m x0 = (biquad_step k m x0).sample
