-- A POSITION STAYS IN ITS RING: what check 4 has established of a stage's state holds of what a window leaves of it, from the definition.
-- It does not say that the samples in the ring stay numbers.
-- Assumes nothing.
use Rattle.std.proofs.Common.{◌≡◌, ℕ, zero, suc, ◌+◌, ◌<◌, ◌≤◌, true, leb, length, refl, ◌∙◌, arith, ltb-true, lt-ltb, leb-true}
use lib.Ieee.{Float}
use Rattle.answers.proofs.Tests.{and_left, and_right}
use Rattle.magnetron.specs.Signals.{state_at}
use Rattle.microwave.specs.Filter.{with_numbers, machine_of as filter_of}
use Rattle.microwave.specs.Waveguide.{Strung, InRing, string_next}
use Rattle.microwave.specs.declared.filter.FilterMachine.{FilterMachine}
use Rattle.microwave.specs.declared.filter.FilterMachine.TheVariants as filter
use Rattle.microwave.specs.declared.parameter.Numbers.{Numbers}
use Rattle.microwave.specs.declared.waveguide.Guide.{Guide}
use Rattle.microwave.proofs.Strings.{guide_fits, string-length, string_stays}
use Rattle.stages.specs.declared.kind.Kind.{Kind}
use Rattle.stages.specs.declared.kind.Kind.TheVariants.{Pass, Pow3, Clip, Filter, Oscillator, ModOscillator, Waveguide, RingModulator, Pan}
use Rattle.stages.specs.declared.window.RenderWindow.{RenderWindow}
use Rattle.stages.specs.declared.machine.Machine.TheVariants as machine
use Rattle.stages.specs.Stage.{Own, own, ring_len, ring_fine, filter_machine, settled, entered, strung_of, Hears, next_of}
use Rattle.stages.specs.Inside.{Strings}
use Rattle.stages.proofs.Lens.{part_state, string}

-- ---- a ring that check 4 lets pass holds its string

no_string : (f : FilterMachine) (o : Own) → Strings (filter_machine f) o
no_string (filter.OnePole k) o = tt
no_string (filter.Biquad k) o = tt

pub strings_fit : (kind : Kind) (q : Numbers) (w : RenderWindow) (o : Own) → ring_fine kind o.state ≡ true → length o.ring ≡ ring_len kind
    → Strings (settled kind q w o.state) (own (entered kind q o.state) o.ring)
strings_fit (Pass a) q w o e l = tt
strings_fit (Pow3 a) q w o e l = tt
strings_fit (Clip a limit) q w o e l = tt
strings_fit (Filter a f) q w o e l = no_string (filter_of (with_numbers f q.first q.second) w.sample_width_secs) o
strings_fit (Oscillator s) q w o e l = tt
strings_fit (ModOscillator a s m) q w o e l = tt
strings_fit (RingModulator a b) q w o e l = tt
strings_fit (Pan a gain right) q w o e l = tt
strings_fit (Waveguide a g) q w o e l =
    let small : g.buffer_size ≤ 32767 = leb-true _ _ (and_left _ _ e) in
    let below : o.state.waveguide.position < g.buffer_size + 1 = ltb-true _ _ (and_right (leb g.buffer_size 32767) _ e) in
    record { position = rw l below; short = omega arith; delay = rw l (guide_fits g.reflectance g.buffer_size _ _ _ _ small) }

-- ---- along a window

module _ (k : Guide) (s : Strung) (x : ℕ → Float) where
  string-kept : (n : ℕ) → InRing k s → InRing k (state_at (string_next k) s x n) × (length (state_at (string_next k) s x n).ring ≡ length s.ring)
  unfolding state_at
  string-kept zero i = (i, refl)
  string-kept (suc n) i =
      let h = string-kept n i in
      (string_stays k (state_at (string_next k) s x n) (x n) h.0, string-length k (state_at (string_next k) s x n) (x n) ∙ h.1)

string-position : (k : Guide) (len : ℕ) (o : Own) (x : ℕ → Hears) (n : ℕ) → InRing k (strung_of o) → length o.ring ≡ len
    → (state_at (next_of (machine.Waveguide k)) o x n).state.waveguide.position < len
string-position k len o x n i l =
    let h = string-kept k (strung_of o) (λ j. (x j).first) n i in
    rw (part_state string (λ (y : Hears). y.first) (string_next k) o x n) (rw (h.1 ∙ l) at h.0.position)

pub position_stays : (kind : Kind) (q : Numbers) (w : RenderWindow) (o : Own) (x : ℕ → Hears) (n : ℕ) → ring_fine kind o.state ≡ true → length o.ring ≡ ring_len kind
    → ring_fine kind (state_at (next_of (settled kind q w o.state)) (own (entered kind q o.state) o.ring) x n).state ≡ true
position_stays (Pass a) q w o x n e l = refl
position_stays (Pow3 a) q w o x n e l = refl
position_stays (Clip a limit) q w o x n e l = refl
position_stays (Filter a f) q w o x n e l = refl
position_stays (Oscillator s) q w o x n e l = refl
position_stays (ModOscillator a s m) q w o x n e l = refl
position_stays (RingModulator a b) q w o x n e l = refl
position_stays (Pan a gain right) q w o x n e l = refl
position_stays (Waveguide a g) q w o x n e l =
    rw (and_left (leb g.buffer_size 32767) _ e) (lt-ltb _ _ (string-position _ (g.buffer_size + 1) o x n (strings_fit (Waveguide a g) q w o e l) l))
