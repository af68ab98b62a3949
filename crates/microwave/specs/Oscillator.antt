-- Oscillators: what a window works out once, the waves of oscillator.rs, and one sample: what it answers, and what it leaves of the memory.
-- Rests on the small functions of f64 and the sine of turns. Assumes nothing.
use Rattle.std.specs.Prelude.{ℕ, cond, Option, Some, None, pos, from_bits, Float}
use Rattle.std.specs.Float.{binary64}
use Rattle.std.specs.Float.Ieee.{neg, lt, of_int}
use Rattle.numbers.specs.Constants.{one64, two64, half64, quarter64, three_quarters64}
use Rattle.numbers.specs.Small.{abs_of, fract_of, rem_euclid_of}
use Rattle.numbers.specs.Turns.{sine_of}
use Rattle.util.specs.declared.step.Step.{Step}
use Rattle.util.specs.Interaction.{step}
use Rattle.microwave.specs.Arithmetic.{f64_arithmetic}
use Rattle.microwave.specs.declared.oscillator.OscillatorType.{OscillatorType}
use Rattle.microwave.specs.declared.oscillator.OscillatorType.TheVariants.{Sin, Sin3, Triangle, Square, Sawtooth}
use Rattle.microwave.specs.declared.oscillator.Modulation.{Modulation}
use Rattle.microwave.specs.declared.oscillator.Modulation.TheVariants.{ByPhase, ByFrequency}
use Rattle.microwave.specs.declared.oscillator.Phases.{Phases}
use Rattle.microwave.specs.declared.oscillator.Oscillator.{Oscillator}
open f64_arithmetic use {◌⊕◌, ◌⊖◌, ◌⊗◌, ◌⊘◌}

-- ---- the start of a window

-- "dp = frequency*w + (phase - saved)/n"
abbrev pub d_phase_of : Float → Float → Float → Float → ℕ → Float
d_phase_of frequency phase saved w n = frequency ⊗ w ⊕ (phase ⊖ saved) ⊘ of_int binary64 (pos n)

-- "saved = phase"
abbrev pub phase_saved : Phases → Float → Phases
phase_saved p phase = record { phase = p.phase; saved = phase }

-- ---- one sample

-- how an oscillator takes its input: none, where nothing drives it
abbrev pub Driven : Type 0
Driven = Option Modulation

-- "ByPhase reads the wave at rem_euclid(phase + s)", the others at the phase
abbrev pub place_of : Driven → Float → Float → Float
place_of None phase s = phase
place_of (Some ByPhase) phase s = rem_euclid_of (phase ⊕ s)
place_of (Some ByFrequency) phase s = phase

-- "ByFrequency steps by (phase + dp) + s*w", the others by phase + dp
abbrev pub bent_of : Driven → Float → Float → Float
bent_of None moved bend = moved
bent_of (Some ByPhase) moved bend = moved
bent_of (Some ByFrequency) moved bend = moved ⊕ bend

abbrev four64 : Float
four64 = from_bits binary64 0x4010_0000_0000_0000

-- "Waves as in oscillator.rs; Square of NaN is -1."
unfoldable pub wave_of : OscillatorType → Float → Float
wave_of Sin phase = sine_of phase
wave_of Sin3 phase = sine_of phase ⊗ sine_of phase ⊗ sine_of phase
wave_of Triangle phase = (abs_of (fract_of (three_quarters64 ⊕ phase) ⊖ half64) ⊖ quarter64) ⊗ four64
wave_of Square phase = cond (lt phase half64) one64 (neg one64)
wave_of Sawtooth phase = (fract_of (half64 ⊕ phase) ⊖ half64) ⊗ two64

-- "Signal first, then phase = rem_euclid(phase + dp).": the signal is read where the phase stood. `saved` stays.
unfoldable pub oscillator_out : Oscillator → Phases → Float → Float
oscillator_out o p s = wave_of o.oscillator_type (place_of o.driven p.phase s)

unfoldable pub oscillator_next : Oscillator → Phases → Float → Phases
oscillator_next o p s = record { phase = rem_euclid_of (bent_of o.driven (p.phase ⊕ o.d_phase) (s ⊗ o.sample_width)); saved = p.saved }

abbrev pub oscillated : Oscillator → Phases → Float → Step Phases
oscillated o p s = step (oscillator_next o p s) (oscillator_out o p s)
