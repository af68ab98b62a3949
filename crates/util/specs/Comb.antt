-- The comb, once for any response, any limit and any reading of the ring; then what a single operation on one leaves, for any input, and the waveguide's
-- pairing by name (01, "Delay line"). Assumes nothing.
use Rattle.std.specs.Prelude.{ℕ, cond, List, length, replicate, slice_set, Result, Ok, Float}
use Rattle.std.specs.Float.{binary64}
use Rattle.std.specs.Float.Ieee.{add}
use Rattle.numbers.specs.Constants.{zero64}
use Rattle.numbers.specs.Outcome.{Outcome, outcome}
use Rattle.answers.specs.declared.refusal.Refusal.{Refusal}
use Rattle.util.specs.declared.delay_line.Delay.{Delay}
use Rattle.util.specs.declared.delay_line.Read.{Read}
use Rattle.util.specs.declared.step.Step.{Step}
use Rattle.util.specs.declared.soft_clip.SoftClip.{SoftClip}
use Rattle.util.specs.declared.comb_filter.Comb.{Comb}
use Rattle.util.specs.declared.answered.Answered.{Answered}
use Rattle.util.specs.DelayLine.{next_slot, Reading, delayed_by, in_ring, refused, Steps, processed}
use Rattle.util.specs.Interaction.{step, Interaction, LowPassGain, low_pass_gain, soft_clip_of}

-- a comb with its ring
pub record RingedComb (R L : Type 0) : Type 0 where
  pub ring : List Float
  pub position : ℕ
  pub response : R
  pub limit : L

module _ {R L : Type 0} where
  abbrev pub comb_over : Comb R L → List Float → RingedComb R L
  comb_over c ring = record { ring = ring; position = c.cursor.position; response = c.response; limit = c.limit }

  -- a step as what it leaves of the comb, and of the ring
  abbrev pub apart : Step (RingedComb R L) → Outcome (Step (Comb R L)) (List Float)
  apart s =
      let c = s.next in
      outcome (step (record { cursor = record { position = c.position }; response = c.response; limit = c.limit }) s.sample) c.ring

module _ {R L : Type 0} (response : Interaction R) (limit : Interaction L) where
  -- "Comb: advance, fb = response(delayed), write limit(fb+x), answer fb."
  unfoldable pub comb : Reading → RingedComb R L → Float → Step (RingedComb R L)
  comb reading s x =
      let at = next_slot (length s.ring) s.position in
      let fb = response.process s.response (reading s.ring at) in
      let fed = limit.process s.limit (add binary64 fb.sample x) in
      step (record { ring = slice_set s.ring at fed.sample; position = at; response = fb.next; limit = fed.next }) fb.sample

  abbrev pub comb_on : Steps (Comb R L)
  comb_on reading c ring x = apart (comb reading (comb_over c ring) x)

  -- ---- single operations

  unfoldable pub combed : Read → Comb R L → List Float → Float → Outcome (Answered (Comb R L)) (List Float)
  combed read c ring x = processed comb_on c.cursor read c ring x

  -- "mute as in util.rs": the ring, the response and the limit; the position stays
  unfoldable pub comb_muted : Comb R L → List Float → Outcome (Result (Comb R L) Refusal) (List Float)
  comb_muted c ring =
      cond (in_ring c.cursor.position (length ring))
      (outcome (Ok (record { cursor = c.cursor; response = response.mute c.response; limit = limit.mute c.limit })) (replicate (length ring) zero64))
      (outcome refused ring)

-- ---- the waveguide's pairing

abbrev pub TunedComb : Type 0
TunedComb = Comb LowPassGain SoftClip

abbrev pub tuned_step : Delay → TunedComb → List Float → Float → Step (RingedComb LowPassGain SoftClip)
tuned_step d c ring x = comb low_pass_gain soft_clip_of (delayed_by d) (comb_over c ring) x
