-- What a kind of stage remembers by: "A stage's state record has room for every kind". Kinds that remember by the same numbers share a part of it: five biquads one,
-- two one-poles another, two oscillators a third. That "a run changes only its own kind's part", `proofs/OwnPart.antt` says. Definitions only. Assumes nothing.
use Rattle.std.specs.Prelude.{◌≡◌}
use Rattle.microwave.specs.declared.filter.Filter.TheVariants as filter
use Rattle.microwave.specs.Filter.{FilterType}
use Rattle.stages.specs.declared.kind.Kind.{Kind}
use Rattle.stages.specs.declared.kind.Kind.TheVariants.{Pass, Pow3, Clip, Filter, Oscillator, ModOscillator, Waveguide, RingModulator, Pan}
use Rattle.stages.specs.declared.state.State.{State}

pub data Family : Type 0 where
  no_memory : Family
  phases : Family
  one_pole_family : Family
  biquad : Family
  string : Family

abbrev pub filter_family : FilterType → Family
filter_family (filter.LowPass cutoff) = one_pole_family
filter_family (filter.LowPass2 resonance quality) = biquad
filter_family (filter.HighPass cutoff) = one_pole_family
filter_family (filter.HighPass2 resonance quality) = biquad
filter_family (filter.BandPass center quality) = biquad
filter_family (filter.Notch center quality) = biquad
filter_family (filter.AllPass corner quality) = biquad

abbrev pub family_of : Kind → Family
family_of (Pass a) = no_memory
family_of (Pow3 a) = no_memory
family_of (Clip a limit) = no_memory
family_of (Filter a f) = filter_family f
family_of (Oscillator o) = phases
family_of (ModOscillator a o m) = phases
family_of (Waveguide a g) = string
family_of (RingModulator a b) = no_memory
family_of (Pan a gain right) = no_memory

-- two state records are alike in every part but that family's
abbrev pub AlikeBut : Family → State → State → Type 0
AlikeBut no_memory s t = s ≡ t
AlikeBut phases s t = (s.one_pole ≡ t.one_pole) × (s.biquad ≡ t.biquad) × (s.waveguide ≡ t.waveguide)
AlikeBut one_pole_family s t = (s.oscillator ≡ t.oscillator) × (s.biquad ≡ t.biquad) × (s.waveguide ≡ t.waveguide)
AlikeBut biquad s t = (s.oscillator ≡ t.oscillator) × (s.one_pole ≡ t.one_pole) × (s.waveguide ≡ t.waveguide)
AlikeBut string s t = (s.oscillator ≡ t.oscillator) × (s.one_pole ≡ t.one_pole) × (s.biquad ≡ t.biquad)
