-- Each public contract of `util` determines what is seen of a call: the result, and what a lent ring holds then.
-- `Reads.Post`, which Rattle makes of a function's `ensures`, is the contract itself: no copy of it is written here. Assumes nothing.
use Rattle.std.proofs.Common.{◌≡◌, ℕ, refl, ap, MutBor}
use seplogic.Ra.Ura.{Ura}
use base.Logic.{SProp}
use prog.Memory.{Memory}
use prog.Routine.{Routine}
use types.Logic.{Logic}
use contract.Monad.{Fun, fact}
use contract.Lifetimes.{Lfts}
use denote.RattleType.{RattleType}
use Rattle.numbers.specs.Outcome.{Answer, Determined, as_follows, by_definition, outcome}
use Rattle.std.specs.Prelude.{Result, ⊤}
use Rattle.answers.specs.declared.refusal.Refusal.{Refusal}
use Rattle.util.specs.declared.delay_line.Cursor.{Cursor}
use Rattle.util.specs.DelayLine.{advanced_there}
use Rattle.util.specs.Interaction.{Step}
use Rattle.util.specs.Comb.{RingedComb}
use Rattle.util.proofs.reach.number.Reads as reach-number
use Rattle.util.proofs.reach.U8FromReach.from.Reads as reach-from
use Rattle.util.proofs.delay_line.delay_at.Reads as delay-at
use Rattle.util.proofs.delay_line.Cursor.advance.Reads as advance
use Rattle.util.proofs.delay_line.Cursor.write.Reads as write
use Rattle.util.proofs.delay_line.Cursor.get_delayed.Reads as get-delayed
use Rattle.util.proofs.delay_line.Cursor.get_delayed_fract.Reads as get-delayed-fract
use Rattle.util.proofs.delay_line.Cursor.mute.Reads as mute
use Rattle.util.proofs.soft_clip.SoftClipInteraction.process_sample.Reads as soft-clip
use Rattle.util.proofs.soft_clip.SoftClipInteraction.delay_samples.Reads as soft-clip-delay
use Rattle.util.proofs.soft_clip.SoftClipInteraction.mute.Reads as soft-clip-mute
use Rattle.util.proofs.low_pass.damping.Reads as damping
use Rattle.util.proofs.low_pass.OnePoleLowPass.new.Reads as low-pass-new
use Rattle.util.proofs.low_pass.OnePoleLowPass.set_cutoff.Reads as low-pass-cutoff
use Rattle.util.proofs.low_pass.OnePoleLowPassInteraction.process_sample.Reads as low-pass
use Rattle.util.proofs.low_pass.OnePoleLowPassInteraction.delay_samples.Reads as low-pass-delay
use Rattle.util.proofs.low_pass.OnePoleLowPassInteraction.mute.Reads as low-pass-mute
use Rattle.util.proofs.interaction.F64Interaction.process_sample.Reads as gain
use Rattle.util.proofs.interaction.F64Interaction.delay_samples.Reads as gain-delay
use Rattle.util.proofs.interaction.F64Interaction.mute.Reads as gain-mute
use Rattle.util.proofs.interaction.FollowedByInteraction.process_sample.Reads as followed-by
use Rattle.util.proofs.interaction.FollowedByInteraction.delay_samples.Reads as followed-by-delay
use Rattle.util.proofs.interaction.FollowedByInteraction.mute.Reads as followed-by-mute
use Rattle.util.proofs.interaction.AnyInteractionInteraction.process_sample.Reads as any
use Rattle.util.proofs.interaction.AnyInteractionInteraction.delay_samples.Reads as any-delay
use Rattle.util.proofs.interaction.AnyInteractionInteraction.mute.Reads as any-mute
use Rattle.util.proofs.comb_filter.Comb.process_sample.Reads as comb
use Rattle.util.proofs.comb_filter.Comb.process_sample_fract.Reads as comb-fract
use Rattle.util.proofs.comb_filter.Comb.mute.Reads as comb-mute
use Rattle.util.proofs.comb_filter.Comb.process_sample_at.Reads as comb-at
use Rattle.util.proofs.all_pass.AllPassDelay.set_feedback.Reads as all-pass-feedback
use Rattle.util.proofs.all_pass.AllPassDelay.process_sample.Reads as all_pass
use Rattle.util.proofs.all_pass.AllPassDelay.process_sample_fract.Reads as all-pass-fract
use Rattle.util.proofs.all_pass.AllPassDelay.mute.Reads as all-pass-mute
use Rattle.util.specs.contracts.lent.advance_lent as lent

pub reach_determined : Answer reach-number.Post × Answer reach-from.Post
reach_determined = (by_definition, by_definition)

pub delay_line_determined : Answer delay-at.Post × Answer advance.Post × Determined (λ r s. outcome r s.1.0.now) write.Post
    × Answer get-delayed.Post × Answer get-delayed-fract.Post × Determined (λ r s. outcome r s.1.0.now) mute.Post
delay_line_determined = (by_definition, by_definition, by_definition, by_definition, by_definition, by_definition)

pub soft_clip_determined : Answer soft-clip.Post × Answer soft-clip-delay.Post × Answer soft-clip-mute.Post
soft_clip_determined = (by_definition, by_definition, by_definition)

pub low_pass_determined : Answer damping.Post × Answer low-pass-new.Post × Answer low-pass-cutoff.Post × Answer low-pass.Post
    × Answer low-pass-delay.Post × Answer low-pass-mute.Post
low_pass_determined = (by_definition, by_definition, by_definition, by_definition, by_definition, by_definition)

pub interaction_determined : Answer gain.Post × Answer gain-delay.Post × Answer gain-mute.Post × Answer any.Post × Answer any-delay.Post × Answer any-mute.Post
interaction_determined = (by_definition, by_definition, by_definition, by_definition, by_definition, by_definition)

-- ---- at any two types that are interactions: of one followed by the other, and of the comb that responds through the one and writes through the other.
-- r1 to r6 and l1 to l6 are what is known of the two: the laws of a type, that it is copied, and the members of its `Interaction` and `Clone`.
module _ (R L : RattleType) (r1 : _) (l1 : _) (r2 : _) (l2 : _) (r3 : _) (r4 : _) (r5 : _) (r6 : _) (l3 : _) (l4 : _) (l5 : _) (l6 : _) where
  pub followed_by_determined : Answer (followed-by.Post R L r1 l1 r2 l2 r3 r4 r5 r6 l3 l4 l5 l6)
      × Answer (followed-by-delay.Post R L r1 l1 r2 l2 r3 r4 r5 r6 l3 l4 l5 l6) × Answer (followed-by-mute.Post R L r1 l1 r2 l2 r3 r4 r5 r6 l3 l4 l5 l6)
  followed_by_determined = (by_definition, by_definition, by_definition)

  pub comb_filter_determined : Determined (λ o s. outcome o s.1.0.now) (comb.Post R L r1 l1 r2 l2 r3 r4 r5 r6 l3 l4 l5 l6)
      × Determined (λ o s. outcome o s.1.0.now) (comb-fract.Post R L r1 l1 r2 l2 r3 r4 r5 r6 l3 l4 l5 l6)
      × Determined (λ o s. outcome o s.1.0.now) (comb-mute.Post R L r1 l1 r2 l2 r3 r4 r5 r6 l3 l4 l5 l6)
      × Determined (λ o s. outcome o s.1.0.now) (comb-at.Post R L r1 l1 r2 l2 r3 r4 r5 r6 l3 l4 l5 l6)
  comb_filter_determined = (
    by_definition,
    by_definition,
    by_definition,
    as_follows (λ κs a o s p. ap (λ (t : Step (RingedComb R.Denot L.Denot)). outcome (record { next = record { cursor = record { position = t.next.position }; response = t.next.response; limit = t.next.limit }; sample = t.sample }) t.next.ring) p),
  )

pub all_pass_determined : Answer all-pass-feedback.Post × Determined (λ r s. outcome r s.1.0.now) all_pass.Post
    × Determined (λ r s. outcome r s.1.0.now) all-pass-fract.Post × Determined (λ r s. outcome r s.1.0.now) all-pass-mute.Post
all_pass_determined = (by_definition, by_definition, by_definition, by_definition)

-- ---- of a lent cursor: the contract over what was lent and what stands there then; `lent_is` says by `refl` that what is written here is its `ensures`
abbrev pub Lent : MutBor Cursor × ℕ → Result ⊤ Refusal → MutBor Cursor → Type 0
Lent a r c = outcome r c.now ≡ advanced_there a.0.now a.1

pub lent_is : {M : Type 1} {𝓤 : Ura M} (𝓛 : Logic 𝓤) (at_mem : Memory → SProp 𝓤) (run : Routine → Fun 𝓤) (κs : Lfts 1) (c c' : MutBor Cursor) (n : ℕ) (r : Result ⊤ Refusal)
    → lent.ensures-1 𝓛 κs at_mem run c n (record { entry = c; exit = c' }) (record { entry = n; exit = n }) r ≡ fact 𝓤 (Lent (c, n) r c')
lent_is 𝓛 at_mem run κs c c' n r = refl

pub lent_determined : Determined (λ r s. outcome r s.now) (λ (κs : Lfts 1). Lent)
lent_determined = by_definition
