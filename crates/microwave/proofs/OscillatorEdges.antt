-- The edges of an oscillator that the requirements remark on, as theorems of its definition, over a window of any length. Assumes nothing.
use Rattle.std.proofs.Common.{◌≡◌, Some, None, ℕ, ◌<◌, true, T, List, [], ◌∷◌, refl, ap, ◌∙◌}
use mathlib.Core.List.{foldl}
use lib.Ieee.{Float, nan, binary64, of_bits, neg, add, mul, rem, round, lt, le, fits}
use Rattle.numbers.specs.Constants.{zero64, one64}
use Rattle.numbers.specs.Small.{rem_euclid_of}
use Rattle.numbers.specs.HalfTurns.{HalfTurns}
use Rattle.numbers.proofs.HalfTurns.{at_half_turns, at_minus_zero}
use Rattle.microwave.specs.Oscillator.{Driven, wave_of, phase_saved, bent_of, oscillator_next}
use Rattle.microwave.specs.declared.oscillator.OscillatorType.TheVariants.{Sin, Sin3, Square}
use Rattle.microwave.specs.declared.oscillator.Modulation.TheVariants.{ByPhase, ByFrequency}
use Rattle.microwave.specs.declared.oscillator.Phases.{Phases}
use Rattle.microwave.specs.declared.oscillator.Oscillator.{Oscillator}

-- the memory after a window's inputs, one sample each
abbrev pub after : Oscillator → Phases → List Float → Phases
after o p inputs = foldl (oscillator_next o) p inputs

-- "Square of NaN is -1."
pub square_of_nan : wave_of Square nan ≡ neg one64
unfolding wave_of lt
square_of_nan = refl

-- 02, Three: "Make both +0.0, Sin3 included, and leave -0.0 at -0.0.": at every f64 that is a positive whole number of half turns, up to a whole turn
pub half_turns : (x : Float) (k : ℕ) → T (fits binary64 x) → HalfTurns k x → 0 < k → le x one64 ≡ true → (wave_of Sin x ≡ zero64) × (wave_of Sin3 x ≡ zero64)
unfolding wave_of
half_turns x k t v positive h =
    let zero = at_half_turns x k t v positive h in
    (zero, rw zero (unfold mul of_bits round in refl))

pub minus_zero : (wave_of Sin (neg zero64) ≡ neg zero64) × (wave_of Sin3 (neg zero64) ≡ neg zero64)
unfolding wave_of
minus_zero = (at_minus_zero, rw at_minus_zero (unfold mul neg of_bits round in refl))

-- "A NaN phase stays."
bent_nan : (d : Driven) (bend : Float) → bent_of d nan bend ≡ nan
unfolding add
bent_nan None bend = refl
bent_nan (Some ByPhase) bend = refl
bent_nan (Some ByFrequency) bend = refl

next_nan : (o : Oscillator) (saved s : Float) → oscillator_next o (record { phase = nan; saved = saved }) s ≡ record { phase = nan; saved = saved }
unfolding oscillator_next add rem_euclid_of rem lt
next_nan o saved s = rw bent_nan

pub nan_phase_stays : (o : Oscillator) (saved : Float) (inputs : List Float) → (after o (record { phase = nan; saved = saved }) inputs).phase ≡ nan
nan_phase_stays o saved [] = refl
nan_phase_stays o saved (s ∷ ss) = ap (λ p. (after o p ss).phase) (next_nan o saved s) ∙ nan_phase_stays o saved ss

-- "saved = phase": whatever the window's length, and for an empty one too; its phase stays where it was
pub saved_moves : (o : Oscillator) (p : Phases) (phase : Float) (inputs : List Float) → (after o (phase_saved p phase) inputs).saved ≡ phase
unfolding oscillator_next
saved_moves o p phase [] = refl
saved_moves o p phase (s ∷ ss) = saved_moves o (oscillator_next o (phase_saved p phase) s) phase ss

pub phase_rests : (o : Oscillator) (p : Phases) (phase : Float) → (after o (phase_saved p phase) []).phase ≡ p.phase
phase_rests o p phase = refl
