-- Interactions, as util.rs has them: what each makes of a sample, its delay in samples, and what muting leaves of it. Assumes nothing.
use Rattle.std.specs.Prelude.{cond, Float}
use Rattle.std.specs.Float.{binary64}
use Rattle.std.specs.Float.Ieee.{add, sub, mul, div, le}
use Rattle.numbers.specs.Constants.{zero64, one64, tau64}
use Rattle.numbers.specs.Small.{max_of, abs_of, copysign_of}
pub use Rattle.util.specs.declared.step.Step.{Step}
use Rattle.util.specs.declared.soft_clip.SoftClip.{SoftClip}
use Rattle.util.specs.declared.low_pass.OnePoleLowPass.{OnePoleLowPass}
use Rattle.util.specs.declared.interaction.FollowedBy.{FollowedBy}
use Rattle.util.specs.declared.interaction.AnyInteraction.{AnyInteraction}
use Rattle.util.specs.declared.interaction.AnyInteraction.TheVariants as any

-- the next state, with the sample
abbrev pub step : {S : Type 0} → S → Float → Step S
step s y = record { next = s; sample = y }

-- an interaction takes its state and a sample to the next state and a sample
pub record Interaction (S : Type 0) : Type 0 where
  pub process : S → Float → Step S
  pub delay : S → Float
  pub mute : S → S

-- ---- the three

-- a factor
abbrev pub gain : Interaction Float
gain = record { process = λ g x. step g (mul binary64 g x); delay = λ g. zero64; mute = λ g. g }

-- "SoftClip: a = |x|; x if a <= L; else o = a-L and (L + o/(o/(1-L)+1)) with x's sign."
unfoldable pub clipped : Float → Float → Float
clipped l x =
    let a = abs_of x in
    let o = sub binary64 a l in
    cond (le a l) x (copysign_of (add binary64 l (div binary64 o (add binary64 (div binary64 o (sub binary64 one64 l)) one64))) x)

abbrev pub soft_clip_of : Interaction SoftClip
soft_clip_of = record { process = λ s x. step s (clipped s.linear_until x); delay = λ s. zero64; mute = λ s. s }

-- "OnePoleLowPass: damping d = max(1 - TAU*cutoff/rate, 0)"
abbrev pub damping_of : Float → Float → Float
damping_of cutoff rate = max_of (sub binary64 one64 (div binary64 (mul binary64 tau64 cutoff) rate)) zero64

abbrev pub low_pass_at : Float → Float → OnePoleLowPass
low_pass_at d y = record { damping = d; state = y }

-- "state = (1-d)*x + d*state"
abbrev pub smoothed : OnePoleLowPass → Float → Float
smoothed s x = add binary64 (mul binary64 (sub binary64 one64 s.damping) x) (mul binary64 s.damping s.state)

-- "delay d/(1-d)"; "mute as in util.rs"
abbrev pub low_pass_of : Interaction OnePoleLowPass
low_pass_of = record {
  process = λ s x. step (low_pass_at s.damping (smoothed s x)) (smoothed s x);
  delay = λ s. div binary64 s.damping (sub binary64 one64 s.damping);
  mute = λ s. low_pass_at s.damping zero64;
}

-- ---- one after the other

-- "followed_by runs first, then second."
abbrev pub followed_by : {S T : Type 0} → Interaction S → Interaction T → Interaction (FollowedBy S T)
followed_by f g = record {
  process = λ s x.
      let a = f.process s.first x in
      let b = g.process s.second a.sample in
      step (record { first = a.next; second = b.next }) b.sample;
  delay = λ s. add binary64 (f.delay s.first) (g.delay s.second);
  mute = λ s. record { first = f.mute s.first; second = g.mute s.second };
}

-- a low-pass followed by a gain: how a waveguide responds
abbrev pub LowPassGain : Type 0
LowPassGain = FollowedBy OnePoleLowPass Float

abbrev pub low_pass_gain : Interaction LowPassGain
low_pass_gain = followed_by low_pass_of gain

-- the step of another state
abbrev pub over : {S T : Type 0} → (S → T) → Step S → Step T
over to s = step (to s.next) s.sample

-- ---- those that a comb takes, by name: as its response, or as its limit

abbrev any_process : AnyInteraction → Float → Step AnyInteraction
any_process (any.Gain g) x = over any.Gain (gain.process g x)
any_process (any.SoftClip s) x = over any.SoftClip (soft_clip_of.process s x)
any_process (any.LowPassGain p) x = over any.LowPassGain (low_pass_gain.process p x)

abbrev any_delay : AnyInteraction → Float
any_delay (any.Gain g) = gain.delay g
any_delay (any.SoftClip s) = soft_clip_of.delay s
any_delay (any.LowPassGain p) = low_pass_gain.delay p

abbrev any_mute : AnyInteraction → AnyInteraction
any_mute (any.Gain g) = any.Gain (gain.mute g)
any_mute (any.SoftClip s) = any.SoftClip (soft_clip_of.mute s)
any_mute (any.LowPassGain p) = any.LowPassGain (low_pass_gain.mute p)

abbrev pub any_interaction : Interaction AnyInteraction
any_interaction = record { process = any_process; delay = any_delay; mute = any_mute }
