-- What a machine keeps from sample to sample: its memory, and its ring where it has one. Assumes nothing.
use Rattle.std.specs.Prelude.{List, Float}
use Rattle.util.specs.declared.step.Step.{Step}
use Rattle.util.specs.Interaction.{over}

pub record Running (M : Type 0) : Type 0 where
  pub memory : M
  pub ring : List Float

abbrev pub running : {M : Type 0} → M → List Float → Running M
running memory ring = record { memory = memory; ring = ring }

-- the step of a machine that has no ring: it leaves what stands there
abbrev pub ringless : {M : Type 0} → (M → Float → Step M) → Running M → Float → Step (Running M)
ringless f s x = over (λ m. running m s.ring) (f s.memory x)

-- a step's two parts
abbrev pub next_by : {S : Type 0} → (S → Float → Step S) → S → Float → S
next_by f s x = (f s x).next

abbrev pub out_by : {S : Type 0} → (S → Float → Step S) → S → Float → Float
out_by f s x = (f s x).sample
