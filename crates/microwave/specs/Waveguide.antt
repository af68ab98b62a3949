-- The waveguide: what a window works out once, and one sample of the comb that it tunes (01, "Stages"). Rests on the comb of `util`. Assumes nothing.
use Rattle.std.specs.Prelude.{ℕ, ◌+◌, ◌<◌, ◌≤◌, List, length, pos, from_bits, Float}
use Rattle.std.specs.Float.{binary64}
use Rattle.std.specs.Float.Ieee.{neg, of_int}
use Rattle.numbers.specs.Constants.{zero64, one64, half64}
use Rattle.util.specs.DelayLine.{delay_at}
use Rattle.util.specs.declared.step.Step.{Step}
use Rattle.util.specs.Interaction.{over, damping_of, low_pass_at, LowPassGain, low_pass_gain}
use Rattle.util.specs.Comb.{RingedComb, TunedComb, tuned_step}
use Rattle.util.specs.declared.soft_clip.SoftClip.{SoftClip}
use Rattle.microwave.specs.Arithmetic.{f64_arithmetic}
use Rattle.microwave.specs.Running.{Running, running}
use Rattle.microwave.specs.declared.waveguide.Reflectance.{Reflectance}
use Rattle.microwave.specs.declared.waveguide.Reflectance.TheVariants.{Positive, Negative}
use Rattle.microwave.specs.declared.waveguide.StringMemory.{StringMemory}
use Rattle.microwave.specs.declared.waveguide.Guide.{Guide}
open f64_arithmetic use {◌⊖◌, ◌⊗◌, ◌⊘◌}

-- "factors 1 and 1, or -1 and 0.5"
abbrev pub feedback_factor : Reflectance → Float
feedback_factor Positive = one64
feedback_factor Negative = neg one64

abbrev pub length_factor : Reflectance → Float
length_factor Positive = one64
length_factor Negative = half64

-- "response is feedback*factor times the low-passed sample", with the low-pass at its state
abbrev pub response_at : Float → Float → Float → LowPassGain
response_at damping gain state = record { first = low_pass_at damping state; second = gain }

-- "low-pass rate 1/w; length_factor/(w*frequency) minus the low-pass delay, over buffer_size, held to 0..1". 02: "Waveguides pass their
-- quotient unheld", and the ring's read holds it. The low-pass delay is the same at any state. "ring length is one more"
unfoldable pub guide_of : Reflectance → ℕ → Float → Float → Float → Float → Guide
guide_of reflectance size frequency cutoff feedback w =
    let damping = damping_of cutoff (one64 ⊘ w) in
    let gain = feedback ⊗ feedback_factor reflectance in
    let skip = length_factor reflectance ⊘ (w ⊗ frequency) ⊖ low_pass_gain.delay (response_at damping gain zero64) in
    record { damping = damping; gain = gain; delay = delay_at (size + 1) (skip ⊘ of_int binary64 (pos size)) }

-- ---- one sample

-- a string: what it remembers, and its ring
abbrev pub Strung : Type 0
Strung = Running StringMemory

abbrev pub strung : StringMemory → List Float → Strung
strung memory ring = running memory ring

-- the position lies in a ring that is not too long, and so does the delay: what the checks leave
pub record InRing (k : Guide) (s : Strung) : Type 0 where
  pub position : s.memory.position < length s.ring
  pub short : length s.ring ≤ 32768
  pub delay : k.delay.whole < length s.ring

-- "comb with SoftClip 0.9", as the string's memory has it
abbrev pub comb_of : Guide → StringMemory → TunedComb
comb_of k m = record {
  cursor = record { position = m.position };
  response = response_at k.damping k.gain m.low_pass;
  limit = record { linear_until = from_bits binary64 0x3fec_cccc_cccc_cccd };
}

-- the string that a comb leaves
abbrev pub left_by : RingedComb LowPassGain SoftClip → Strung
left_by c = strung (record { low_pass = c.response.first.state; position = c.position }) c.ring

unfoldable pub string_step : Guide → Strung → Float → Step Strung
string_step k s x = over left_by (tuned_step k.delay (comb_of k s.memory) s.ring x)

-- a step's two parts
abbrev pub string_next : Guide → Strung → Float → Strung
string_next k s x = (string_step k s x).next

abbrev pub string_out : Guide → Strung → Float → Float
string_out k s x = (string_step k s x).sample
