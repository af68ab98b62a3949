-- The five biquads in the Rust's order of operations (filter.rs), over any arithmetic. Assumes nothing.
use Rattle.std.specs.Prelude.{ℕ, List, [], ◌∷◌, slice_index_or}
use Rattle.microwave.specs.Arithmetic.{Arithmetic}

pub data Kind : Type 0 where
  LowPass2 : Kind
  HighPass2 : Kind
  BandPass : Kind
  Notch : Kind
  AllPass : Kind

pub record Coefficients (N : Type 0) : Type 0 where
  pub b0 : N
  pub b1 : N
  pub b2 : N
  pub a0 : N
  pub a1 : N
  pub a2 : N

-- the last two outputs and the last two inputs
pub record Memory (N : Type 0) : Type 0 where
  pub y1 : N
  pub y2 : N
  pub x1 : N
  pub x2 : N

-- the memory after a sample, and the sample that comes out
pub record Step (N : Type 0) : Type 0 where
  pub memory : Memory N
  pub sample : N

module _ (A : Arithmetic) where
  open A use {Number, 𝟎, 𝟏, 𝟐, ◌⊕◌, ◌⊖◌, ◌⊗◌, ◌⊘◌, negated}

  -- "alpha = sin/2/quality"
  abbrev pub alpha_of : Number → Number → Number
  alpha_of sin quality = sin ⊘ 𝟐 ⊘ quality

  -- a kind's b0, b1 and b2 over the a0, a1 and a2 that all kinds share
  abbrev pub with_poles : Number → Number → Number → Number → Number → Coefficients Number
  with_poles b0 b1 b2 cos alpha =
      record { b0 = b0; b1 = b1; b2 = b2; a0 = 𝟏 ⊕ alpha; a1 = negated 𝟐 ⊗ cos; a2 = 𝟏 ⊖ alpha }

  abbrev pub coefficients_of : Kind → Number → Number → Number → Coefficients Number
  coefficients_of LowPass2 cos alpha quality =
      let b1 = 𝟏 ⊖ cos in
      let b0 = b1 ⊘ 𝟐 in
      with_poles b0 b1 b0 cos alpha
  coefficients_of HighPass2 cos alpha quality =
      let b1 = negated (𝟏 ⊕ cos) in
      let b0 = negated b1 ⊘ 𝟐 in
      with_poles b0 b1 b0 cos alpha
  -- "BandPass keeps its 0.0*x1: an infinite x1 makes NaN."
  coefficients_of BandPass cos alpha quality =
      let b0 = quality ⊗ alpha in
      with_poles b0 𝟎 (negated b0) cos alpha
  coefficients_of Notch cos alpha quality = with_poles 𝟏 (negated 𝟐 ⊗ cos) 𝟏 cos alpha
  coefficients_of AllPass cos alpha quality = with_poles (𝟏 ⊖ alpha) (negated 𝟐 ⊗ cos) (𝟏 ⊕ alpha) cos alpha

  -- a kind's coefficients at f0 turns for each sample, with the sine and the cosine of turns
  abbrev pub at_turns : (Number → Number) → (Number → Number) → Kind → Number → Number → Coefficients Number
  at_turns sine cosine kind f0 quality = coefficients_of kind (cosine f0) (alpha_of (sine f0) quality) quality

  -- "y0 = (b0*x0 + b1*x1 + b2*x2 - a1*y1 - a2*y2)/a0 from left to right"
  abbrev pub out_of : Coefficients Number → Memory Number → Number → Number
  out_of k m x0 =
      (k.b0 ⊗ x0 ⊕ k.b1 ⊗ m.x1 ⊕ k.b2 ⊗ m.x2 ⊖ k.a1 ⊗ m.y1 ⊖ k.a2 ⊗ m.y2) ⊘ k.a0

  abbrev pub step_of : Coefficients Number → Memory Number → Number → Step Number
  step_of k m x0 =
      let y0 = out_of k m x0 in
      record { memory = record { y1 = y0; y2 = m.y1; x1 = x0; x2 = m.x1 }; sample = y0 }

  -- the samples that come out for a list of inputs
  unfoldable pub filtered : Coefficients Number → Memory Number → List Number → List Number
  filtered k m [] = []
  filtered k m (x0 ∷ xs) = (step_of k m x0).sample ∷ filtered k (step_of k m x0).memory xs

  -- input and output n of a run, counted from the memory's older pair, which stand in front: sample n of the run has place n + 2
  abbrev pub input_at : Memory Number → List Number → ℕ → Number
  input_at m xs n = slice_index_or (m.x2 ∷ m.x1 ∷ xs) n 𝟎

  abbrev pub output_at : Coefficients Number → Memory Number → List Number → ℕ → Number
  output_at k m xs n = slice_index_or (m.y2 ∷ m.y1 ∷ filtered k m xs) n 𝟎
