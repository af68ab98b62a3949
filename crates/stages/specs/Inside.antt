-- What the helpers between `stages` and an engine ask and promise, in the definitions' words: no reader of a run need believe it. Definitions only. Assumes nothing.
use Rattle.std.specs.Prelude.{◌≡◌, ℕ, ◌<◌, ◌≤◌, cond, List, replicate, ◌==◌, Float}
use Rattle.magnetron.specs.Inside.Source.{signal_of}
use Rattle.magnetron.specs.Signals.{window, state_at, machine as machine_of}
use Rattle.magnetron.specs.Inside.Target.{LiesIn, ClearOf, written}
use Rattle.magnetron.specs.declared.output.Target.{Target}
use Rattle.util.specs.declared.reach.Reach.{Reach}
use Rattle.util.specs.declared.reach.Reach.TheVariants.{Within}
use Rattle.microwave.specs.Waveguide.{InRing}
use Rattle.stages.specs.declared.patch.Patch.{Patch}
use Rattle.stages.specs.declared.machine.Sources.{Sources}
use Rattle.stages.specs.declared.machine.Machine.{Machine}
use Rattle.stages.specs.declared.machine.Machine.TheVariants as machine
use Rattle.stages.specs.Stage.{Own, Hears, hear, strung_of, next_of, out_of}
use Rattle.stages.specs.Rings.{len_in, ring_at}

-- ---- rings

-- each ring keeps its bound
pub record Bounded (patch : Patch) : Type 0 where
  pub few : patch.count ≤ 32
  pub each : (k : ℕ) → k < patch.count → len_in patch k ≤ 32768

-- where each ring begins, by stage number; 0 where there is no stage
abbrev pub starts_of : Patch → List ℕ
starts_of patch = window (replicate 32 0) 0 patch.count (ring_at patch)

-- ---- a machine over a window

-- what a machine tells of its ring, and what a window of n samples of it tells
abbrev pub ring_reach : Machine → Reach
ring_reach (machine.Plain k) = Within
ring_reach (machine.Oscillator k) = Within
ring_reach (machine.OnePole k) = Within
ring_reach (machine.Biquad k) = Within
ring_reach (machine.Waveguide k) = k.delay.reach
ring_reach (machine.Gain gain) = Within

abbrev pub reach_over : ℕ → Machine → Reach
reach_over n m = cond (n == 0) Within (ring_reach m)

-- sample i of what its loop hears
abbrev pub hearing : Sources → List Float → List Float → ℕ → Hears
hearing a own other i = hear (signal_of a.first own other i) (signal_of a.second own other i)

-- what a string asks of its ring
abbrev pub Strings : Machine → Own → Type 0
Strings (machine.Plain k) o = Unit {0}
Strings (machine.Oscillator k) o = Unit {0}
Strings (machine.OnePole k) o = Unit {0}
Strings (machine.Biquad k) o = Unit {0}
Strings (machine.Waveguide k) o = InRing k (strung_of o)
Strings (machine.Gain gain) o = Unit {0}

pub record Playable (m : Machine) (o : Own) (own other : List Float) (a : Sources) (target : Target) : Type 0 where
  pub lies : LiesIn target own
  pub first : ClearOf a.first own other target
  pub second : ClearOf a.second own other target
  pub ring : Strings m o

-- what a window leaves of a machine that steps from o on what is heard
pub record Stepped (m : Machine) (o : Own) (x : ℕ → Hears) (own : List Float) (target : Target) (o' : Own) (own' : List Float) : Type 0 where
  pub kept : o' ≡ state_at (next_of m) o x target.samples
  pub samples : own' ≡ written own target (machine_of (next_of m) (out_of m) o x)
