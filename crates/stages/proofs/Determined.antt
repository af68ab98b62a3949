-- Each public contract of `stages` determines what is seen of a call: its result and every slice that it may change. `Reads.Post`, which Rattle
-- makes of a function's `ensures`, is the contract itself: no copy of it is written here. Assumes nothing.
use Rattle.std.proofs.Common.{◌≡◌, List, [], ◌∷◌, sym, refl, ap, ◌∙◌}
use Rattle.numbers.specs.Outcome.{Answer, Determined, as_follows, by_definition, outcome, both}
use Rattle.magnetron.specs.Buffers.{list_of, written_by}
use Rattle.magnetron.specs.declared.buffer.BufferIndex.{BufferIndex}
use Rattle.magnetron.specs.declared.buffer.BufferIndex.TheVariants.{External}
use Rattle.magnetron.specs.declared.inputs.Inputs.{Inputs}
use Rattle.magnetron.specs.declared.inputs.Inputs.TheVariants.{Nothing, One, Two}
use Rattle.magnetron.specs.declared.outputs.Outputs.{Outputs}
use Rattle.magnetron.specs.declared.outputs.Outputs.TheVariants as outputs
use Rattle.microwave.proofs.Asked.{asked, as_asked}
use Rattle.stages.specs.Stage.{own}
use Rattle.stages.proofs.kind.MachineFromFilterMachine.from.Reads as machine-of
use Rattle.stages.proofs.kind.Kind.inputs.Reads as inputs
use Rattle.stages.proofs.kind.Kind.second.Reads as second
use Rattle.stages.proofs.kind.Kind.asks.Reads as asks
use Rattle.stages.proofs.kind.Kind.numbers.Reads as numbers
use Rattle.stages.proofs.kind.Kind.settle.Reads as settle
use Rattle.stages.proofs.kind.Kind.enter.Reads as enter
use Rattle.stages.proofs.stage.Stage.outputs.Reads as stage-outputs
use Rattle.stages.proofs.stage.Stage.level_asks.Reads as level-asks
use Rattle.stages.proofs.stage.Stage.ring_len.Reads as ring-len
use Rattle.stages.proofs.patch.Patch.rings_ok.Reads as rings-ok
use Rattle.stages.proofs.patch.Patch.ring_starts.Reads as ring-starts
use Rattle.stages.proofs.state.new_state.Reads as new-state
use Rattle.stages.proofs.state.new_states.Reads as new-states
use Rattle.stages.proofs.reach.all_within.Reads as all-within
use Rattle.stages.proofs.window.render_window.Reads as render-window
use Rattle.stages.proofs.machine.Machine.play.Reads as play
use Rattle.stages.proofs.machine.Machine.reach.Reads as reach
use Rattle.stages.proofs.machine.Machine.step.Reads as step

-- inputs by their list
abbrev read : List BufferIndex → Inputs
read [] = Nothing
read (a ∷ []) = One a
read (a ∷ b ∷ more) = Two a b

as_read : (inputs : Inputs) → read (list_of inputs) ≡ inputs
as_read Nothing = refl
as_read (One a) = refl
as_read (Two a b) = refl

-- outputs by theirs
abbrev wrote : List BufferIndex → Outputs
wrote [] = outputs.One (External 0)
wrote (a ∷ []) = outputs.One a
wrote (a ∷ b ∷ more) = outputs.Two a b

as_wrote : (o : Outputs) → wrote (written_by o) ≡ o
as_wrote (outputs.One a) = refl
as_wrote (outputs.Two a b) = refl

pub kind_determined : Answer machine-of.Post × Answer inputs.Post × Answer second.Post × Answer asks.Post × Answer numbers.Post × Answer settle.Post × Answer enter.Post
kind_determined = (
  by_definition,
  as_follows (λ κs a r s p. sym (as_read r) ∙ ap read p),
  by_definition,
  as_follows (λ κs a r s p. sym (as_asked r) ∙ ap asked p),
  by_definition,
  by_definition,
  by_definition,
)

pub stage_determined : Answer stage-outputs.Post × Answer level-asks.Post × Answer ring-len.Post
stage_determined = (as_follows (λ κs a r s p. sym (as_wrote r) ∙ ap wrote p), as_follows (λ κs a r s p. sym (as_asked r) ∙ ap asked p), by_definition)

pub patch_determined : Answer rings-ok.Post × Answer ring-starts.Post
patch_determined = (by_definition, by_definition)

pub state_determined : Answer new-state.Post × Answer new-states.Post
state_determined = (by_definition, by_definition)

pub reach_determined : Answer all-within.Post × Answer reach.Post
reach_determined = (by_definition, by_definition)

pub window_determined : Answer render-window.Post
window_determined = by_definition

-- a window, and a sample: what the stage keeps, its ring with it, and what is written or answered
pub machine_determined : Determined (λ r s. outcome (own r s.1.1.0.now) s.1.1.1.0.now) play.Post
    × Determined (λ r s. outcome (own r.next s.1.1.0.now) r.sample) step.Post
machine_determined = (as_follows (λ κs a r s p. both p.kept p.samples), as_follows (λ κs a r s p. both p.0 p.1))
