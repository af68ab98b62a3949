-- Each public contract determines what is seen of a call: the result, and what each lent slice holds then. `Reads.Post`, which Rattle makes of the function's `ensures`,
-- is the contract itself: no copy of it is written here. Assumes nothing.
use Rattle.std.proofs.Common.{ℕ, Fits, w64, sym, ap, ◌∙◌}
use Rattle.numbers.specs.Outcome.{Answer, Determined, as_follows, by_definition, outcome, both}
use Rattle.util.specs.Interaction.{step}
use Rattle.microwave.specs.Waveguide.{strung}
use Rattle.microwave.proofs.Asked.{asked, as_asked}
use Rattle.microwave.proofs.parameter.lookup.Reads as lookup
use Rattle.microwave.proofs.parameter.required.Reads as required
use Rattle.microwave.proofs.parameter.or_zero.Reads as or-zero
use Rattle.microwave.proofs.parameter.or_one.Reads as or-one
use Rattle.microwave.proofs.parameter.of_pair.Reads as of_pair
use Rattle.microwave.proofs.parameter.check_asks.Reads as check-asks
use Rattle.microwave.proofs.parameter.first_number.Reads as first-number
use Rattle.microwave.proofs.parameter.numbers_found.Reads as numbers-found
use Rattle.microwave.proofs.plain.clip_limit.Reads as clip-limit
use Rattle.microwave.proofs.plain.Shape.shaped.Reads as shaped
use Rattle.microwave.proofs.oscillator.OscillatorType.wave.Reads as wave
use Rattle.microwave.proofs.oscillator.d_phase.Reads as d-phase
use Rattle.microwave.proofs.oscillator.Phases.enter.Reads as enter
use Rattle.microwave.proofs.oscillator.Phases.step.Reads as oscillator-step
use Rattle.microwave.proofs.filter.Filter+Parameter.asks.Reads as asks
use Rattle.microwave.proofs.filter.Filter+Parameter.numbers.Reads as numbers
use Rattle.microwave.proofs.filter.Filter+Parameter.with_numbers.Reads as with-numbers
use Rattle.microwave.proofs.filter.Filter+f64.coefficients.Reads as coefficients
use Rattle.microwave.proofs.filter.OnePoleMemory.step.Reads as one-pole-step
use Rattle.microwave.proofs.filter.Biquad.step.Reads as biquad-step
use Rattle.microwave.proofs.waveguide.guide_of.Reads as guide-of
use Rattle.microwave.proofs.waveguide.StringMemory.step.Reads as string-step
use Rattle.microwave.proofs.window.plain_window.Reads as plain-window
use Rattle.microwave.proofs.window.gain_window.Reads as gain-window
use Rattle.microwave.proofs.window.oscillator_window.Reads as oscillator-window
use Rattle.microwave.proofs.window.one_pole_window.Reads as one-pole-window
use Rattle.microwave.proofs.window.biquad_window.Reads as biquad-window
use Rattle.microwave.proofs.window.string_window.Reads as string-window

pub parameter_determined : Answer lookup.Post × Answer required.Post × Answer or-zero.Post × Answer or-one.Post × Answer of_pair.Post × Answer check-asks.Post
parameter_determined = (by_definition, by_definition, by_definition, by_definition, by_definition, by_definition)

pub numbers_determined : Answer first-number.Post × ((N : ℕ) (sized : Fits w64 N) → Answer (numbers-found.Post N sized))
numbers_determined = (by_definition, λ N sized. by_definition)

pub plain_determined : Answer clip-limit.Post × Answer shaped.Post
plain_determined = (by_definition, by_definition)

pub oscillator_determined : Answer wave.Post × Answer d-phase.Post × Answer enter.Post × Answer oscillator-step.Post
oscillator_determined = (by_definition, by_definition, by_definition, by_definition)

pub filter_determined : Answer asks.Post × Answer numbers.Post × Answer with-numbers.Post × Answer coefficients.Post × Answer one-pole-step.Post × Answer biquad-step.Post
filter_determined = (as_follows (λ κs a r s p. sym (as_asked r) ∙ ap asked p), by_definition, by_definition, by_definition, by_definition, by_definition)

pub waveguide_determined : Answer guide-of.Post × Determined (λ r s. step (strung r.next s.1.1.0.now) r.sample) string-step.Post
waveguide_determined = (by_definition, by_definition)

pub window_determined : Determined (λ r s. s.1.0.now) plain-window.Post × Determined (λ r s. s.1.0.now) gain-window.Post × Determined (λ r s. outcome r s.1.1.0.now) oscillator-window.Post
    × Determined (λ r s. outcome r s.1.1.0.now) one-pole-window.Post × Determined (λ r s. outcome r s.1.1.0.now) biquad-window.Post
    × Determined (λ r s. outcome (strung r s.1.1.0.now) s.1.1.1.0.now) string-window.Post
window_determined = (
  by_definition,
  by_definition,
  as_follows (λ κs a r s p. both p.state p.samples),
  as_follows (λ κs a r s p. both p.state p.samples),
  as_follows (λ κs a r s p. both p.state p.samples),
  as_follows (λ κs a r s p. both p.state p.samples),
)
