-- THE BIQUADS ARE THE AUDIO EQ COOKBOOK'S.
--     agrees          what the filters feed their formulas, the sine and the cosine of frequency * w turns, makes the Cookbook's coefficients of
--                     every kind at f0 = frequency and w = 1/Fs: "w0 = 2*pi*f0/Fs"
--     no_other        BandPass is the published form of constant skirt gain, and where Q is not 1 and alpha not 0 not that of constant 0 dB peak gain
--     step_agrees     one step is the difference equation
--     run_agrees      so is each sample of a run of any length
--     as_tuned        the contracts cite the same formulas, read in f64, at f0 and quality as the Rust's clamps hold them
-- The first four are read in a field, where two, Fs, Q and a0 are not zero, with any pi and any sine and cosine of an angle. They say nothing of rounding, nor of the
-- clamps: those are the Rust's. Assumes nothing.
use Rattle.std.proofs.Common.{◌≡◌, ℕ, zero, suc, ◌+◌, ◌<◌, ◌≢◌, List, [], ◌∷◌, length, refl, ap, ◌∙◌, add-one, arith}
use native.Mathlib.Numerals.{add-two}
use lib.Ieee.{Float}
use Rattle.numbers.specs.Constants.{zero64}
use Rattle.numbers.specs.Small.{max_of, held_of}
use Rattle.numbers.specs.Turns.{sine_of, cosine_of}
use Rattle.microwave.specs.Arithmetic.{Arithmetic, Field, f64_arithmetic}
use Rattle.microwave.specs.Biquads.{Kind, LowPass2, HighPass2, BandPass, Notch, AllPass, Coefficients, Memory, alpha_of, coefficients_of, at_turns, step_of, filtered, input_at, output_at}
use Rattle.microwave.specs.Cookbook.{Circle, w0, alpha, formulas, other_band_pass, cookbook, sine_of_turns, cosine_of_turns, equation}
use Rattle.microwave.specs.Filter.{coded, highest, least_quality, tuned_to, coefficients_at}
use Rattle.microwave.proofs.Fields.{negated_twice, negated_⊗, times-over, ⊗-cancel, ⊕-⊘, ⊖-⊘, ⊗-⊘, ⊘-⊘}

module _ {A : Arithmetic} (F : Field A) where
  open A use {Number, 𝟎, 𝟏, 𝟐, ◌⊗◌, ◌⊘◌}
  open F use {⊗-assoc, ⊗-comm, ⊗-one}

  module _ (two_nonzero : 𝟐 ≢ 𝟎) (quality : Number) (quality-nonzero : quality ≢ 𝟎) where
    alpha_agrees : (sin : Number) → alpha_of A sin quality ≡ alpha A sin quality
    alpha_agrees sin = ⊘-⊘ F sin 𝟐 quality two_nonzero quality-nonzero

    formulas_agree : (k : Kind) (sin cos : Number) → coefficients_of A k cos (alpha_of A sin quality) quality ≡ formulas A k sin cos quality
    unfolding formulas
    formulas_agree LowPass2 sin cos = simp (alpha_agrees sin)
    formulas_agree HighPass2 sin cos = simp (alpha_agrees sin, negated_twice F)
    formulas_agree BandPass sin cos = simp (alpha_agrees sin, negated_⊗ F)
    formulas_agree Notch sin cos = simp (alpha_agrees sin)
    formulas_agree AllPass sin cos = simp (alpha_agrees sin)

    module _ (c : Circle A) (f0 Fs : Number) (rate-nonzero : Fs ≢ 𝟎) where
      angle_agrees : 𝟐 ⊗ c.pi ⊗ (f0 ⊗ (𝟏 ⊘ Fs)) ≡ w0 A c f0 Fs
      angle_agrees = cc (⊗-assoc (𝟐 ⊗ c.pi) f0 (𝟏 ⊘ Fs), times-over F Fs rate-nonzero (𝟐 ⊗ c.pi ⊗ f0))

      pub agrees : (k : Kind) → at_turns A (sine_of_turns A c) (cosine_of_turns A c) k (f0 ⊗ (𝟏 ⊘ Fs)) quality ≡ cookbook A c k f0 Fs quality
      agrees k =
          ap (λ (angle : Number). coefficients_of A k (c.cos angle) (alpha_of A (c.sin angle) quality) quality) angle_agrees
          ∙ formulas_agree k (c.sin (w0 A c f0 Fs)) (c.cos (w0 A c f0 Fs))

    -- where Q is not 1 and alpha not 0, the two forms differ in b0
    pub no_other : (sin cos : Number) → quality ≢ 𝟏 → alpha A sin quality ≢ 𝟎 → coefficients_of A BandPass cos (alpha_of A sin quality) quality ≢ other_band_pass A sin cos quality
    unfolding other_band_pass
    no_other sin cos quality-differs alpha-nonzero e =
        let b0 : quality ⊗ alpha_of A sin quality ≡ alpha A sin quality = ap (λ (k : Coefficients Number). k.b0) e in
        quality-differs (⊗-cancel F (alpha A sin quality) alpha-nonzero quality 𝟏 (cc (b0, alpha_agrees sin, ⊗-comm 𝟏 (alpha A sin quality), ⊗-one (alpha A sin quality))))

  module _ (k : Coefficients Number) (a0-nonzero : k.a0 ≢ 𝟎) where
    pub step_agrees : (m : Memory Number) (x0 : Number) → (step_of A k m x0).sample ≡ equation A k x0 m.x1 m.x2 m.y1 m.y2
    unfolding equation
    step_agrees m x0 = simp (⊕-⊘ F k.a0 a0-nonzero, ⊖-⊘ F k.a0 a0-nonzero, ⊗-⊘ F k.a0 a0-nonzero)

    pub run_agrees : (m : Memory Number) (xs : List Number) (n : ℕ) → n < length xs →
        output_at A k m xs (n + 2)
        ≡ equation A k (input_at A m xs (n + 2)) (input_at A m xs (n + 1)) (input_at A m xs n) (output_at A k m xs (n + 1)) (output_at A k m xs n)
    unfolding filtered
    run_agrees m [] n h = absurd (omega arith)
    run_agrees m (x ∷ xs) zero h = step_agrees m x
    run_agrees m (x ∷ xs) (suc n) h =
        simp (add-one, add-two) (simp (add-one, add-two) at (run_agrees (step_of A k m x).memory xs n (omega arith)))

-- ---- in f64

pub as_tuned : (kind : Kind) (frequency quality w : Float)
    → coefficients_at kind (tuned_to frequency quality w (highest kind))
    ≡ coded (at_turns f64_arithmetic sine_of cosine_of kind (held_of (f64_arithmetic.◌⊗◌ frequency w) zero64 (highest kind)) (max_of quality least_quality))
unfolding tuned_to
as_tuned kind frequency quality w = refl
