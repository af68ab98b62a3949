-- The W3C Audio EQ Cookbook's formulas as that document writes them, over any arithmetic, with any pi and any sine and cosine of an angle. Assumes nothing.
use Rattle.microwave.specs.Arithmetic.{Arithmetic}
use Rattle.microwave.specs.Biquads.{Kind, LowPass2, HighPass2, BandPass, Notch, AllPass, Coefficients}

module _ (A : Arithmetic) where
  open A use {Number, 𝟎, 𝟏, 𝟐, ◌⊕◌, ◌⊖◌, ◌⊗◌, ◌⊘◌, negated}

  -- pi, and the sine and the cosine of an angle
  pub record Circle : Type 0 where
    pub pi : Number
    pub sin : Number → Number
    pub cos : Number → Number

  -- "w0 = 2*pi*f0/Fs"
  abbrev pub w0 : Circle → Number → Number → Number
  w0 c f0 Fs = 𝟐 ⊗ c.pi ⊗ f0 ⊘ Fs

  -- "alpha = sin(w0)/(2*Q)"
  abbrev pub alpha : Number → Number → Number
  alpha sin Q = sin ⊘ (𝟐 ⊗ Q)

  -- the six coefficients, of sin(w0), cos(w0) and Q
  unfoldable pub formulas : Kind → Number → Number → Number → Coefficients Number
  -- LPF
  formulas LowPass2 sin cos Q = record {
    b0 = (𝟏 ⊖ cos) ⊘ 𝟐;
    b1 = 𝟏 ⊖ cos;
    b2 = (𝟏 ⊖ cos) ⊘ 𝟐;
    a0 = 𝟏 ⊕ alpha sin Q;
    a1 = negated 𝟐 ⊗ cos;
    a2 = 𝟏 ⊖ alpha sin Q;
  }
  -- HPF
  formulas HighPass2 sin cos Q = record {
    b0 = (𝟏 ⊕ cos) ⊘ 𝟐;
    b1 = negated (𝟏 ⊕ cos);
    b2 = (𝟏 ⊕ cos) ⊘ 𝟐;
    a0 = 𝟏 ⊕ alpha sin Q;
    a1 = negated 𝟐 ⊗ cos;
    a2 = 𝟏 ⊖ alpha sin Q;
  }
  -- BPF "(constant skirt gain, peak gain = Q)", the first of the two that are published
  formulas BandPass sin cos Q = record {
    b0 = Q ⊗ alpha sin Q;
    b1 = 𝟎;
    b2 = negated Q ⊗ alpha sin Q;
    a0 = 𝟏 ⊕ alpha sin Q;
    a1 = negated 𝟐 ⊗ cos;
    a2 = 𝟏 ⊖ alpha sin Q;
  }
  -- notch
  formulas Notch sin cos Q = record {
    b0 = 𝟏;
    b1 = negated 𝟐 ⊗ cos;
    b2 = 𝟏;
    a0 = 𝟏 ⊕ alpha sin Q;
    a1 = negated 𝟐 ⊗ cos;
    a2 = 𝟏 ⊖ alpha sin Q;
  }
  -- APF
  formulas AllPass sin cos Q = record {
    b0 = 𝟏 ⊖ alpha sin Q;
    b1 = negated 𝟐 ⊗ cos;
    b2 = 𝟏 ⊕ alpha sin Q;
    a0 = 𝟏 ⊕ alpha sin Q;
    a1 = negated 𝟐 ⊗ cos;
    a2 = 𝟏 ⊖ alpha sin Q;
  }

  -- BPF "(constant 0 dB peak gain)", the second. BandPass is not this one: the two are alike only where Q is 1 or alpha is 0
  unfoldable pub other_band_pass : Number → Number → Number → Coefficients Number
  other_band_pass sin cos Q = record {
    b0 = alpha sin Q;
    b1 = 𝟎;
    b2 = negated (alpha sin Q);
    a0 = 𝟏 ⊕ alpha sin Q;
    a1 = negated 𝟐 ⊗ cos;
    a2 = 𝟏 ⊖ alpha sin Q;
  }

  -- a kind's coefficients at a frequency f0 and a sampling frequency Fs
  abbrev pub cookbook : Circle → Kind → Number → Number → Number → Coefficients Number
  cookbook c kind f0 Fs Q = formulas kind (c.sin (w0 c f0 Fs)) (c.cos (w0 c f0 Fs)) Q

  -- x turns are an angle of 2*pi*x
  abbrev pub sine_of_turns : Circle → Number → Number
  sine_of_turns c x = c.sin (𝟐 ⊗ c.pi ⊗ x)

  abbrev pub cosine_of_turns : Circle → Number → Number
  cosine_of_turns c x = c.cos (𝟐 ⊗ c.pi ⊗ x)

  -- y[n] = (b0/a0)*x[n] + (b1/a0)*x[n-1] + (b2/a0)*x[n-2] - (a1/a0)*y[n-1] - (a2/a0)*y[n-2], of the five numbers in that order
  unfoldable pub equation : Coefficients Number → Number → Number → Number → Number → Number → Number
  equation k xn xn-1 xn-2 yn-1 yn-2 =
      (k.b0 ⊘ k.a0) ⊗ xn ⊕ (k.b1 ⊘ k.a0) ⊗ xn-1 ⊕ (k.b2 ⊘ k.a0) ⊗ xn-2 ⊖ (k.a1 ⊘ k.a0) ⊗ yn-1 ⊖ (k.a2 ⊘ k.a0) ⊗ yn-2
