-- The contract of each exported function, and of each `From` beside them, determines what is seen of a call: its result, and every slice and record that
-- it is lent to change. `Reads.Post`, which Rattle makes of a function's `ensures`, is the contract itself: no copy of it is written here, but for that of
-- the lent cursor. Assumes nothing.
use mathlib.Core.Path.{◌≡◌, refl}
use Prim.Native.Nat.{ℕ}
use seplogic.Ra.Ura.{Ura}
use base.Logic.{SProp}
use prog.Memory.{Memory}
use prog.Routine.{Routine}
use types.Logic.{Logic}
use contract.Monad.{Fun, fact}
use contract.Lifetimes.{Lfts}
use denote.MutBor.{MutBor}
use Rattle.numbers.specs.Outcome.{Answer, Determined, by_definition, outcome}
use Rattle.answers.specs.declared.refusal.Told.{Told}
use Rattle.answers.specs.Refusal.{told_of}
use Rattle.util.specs.declared.delay_line.Cursor.{Cursor}
use Rattle.util.specs.DelayLine.{advanced_there}
use Rattle.host.specs.Host.{crossed, flat_after_write, flat_after}
use Rattle.host.specs.contracts.cursor.grynnadot_advance as advance
use Rattle.host.proofs.file.ReadPatchFromResultFlatPatchFault.from.Reads as flat-read
use Rattle.host.proofs.file.grynnadot_read_patch.Reads as read-patch
use Rattle.host.proofs.pools.FlatMadeFromMade.from.Reads as flat-made
use Rattle.host.proofs.pools.FlatPreparedFromPrepared.from.Reads as flat-prepared
use Rattle.host.proofs.pools.FlatWroteFromWrote.from.Reads as flat-wrote
use Rattle.host.proofs.pools.grynnadot_new_pool.Reads as new-pool
use Rattle.host.proofs.pools.grynnadot_prepare.Reads as prepare
use Rattle.host.proofs.pools.grynnadot_check_read.Reads as check-read
use Rattle.host.proofs.pools.grynnadot_read_0_write_1.Reads as read-0-write-1
use Rattle.host.proofs.pools.grynnadot_read_1_write_1.Reads as read-1-write-1
use Rattle.host.proofs.pools.grynnadot_read_2_write_1.Reads as read-2-write-1
use Rattle.host.proofs.run.FlatAnswerFromAnswer.from.Reads as flat-answer
use Rattle.host.proofs.run.FlatRanFromRan.from.Reads as flat-ran
use Rattle.host.proofs.run.grynnadot_new_states.Reads as new-states
use Rattle.host.proofs.run.grynnadot_run.Reads as run

pub pools_determined : Determined (λ r s. outcome r s.1.1.0.now) new-pool.Post × Answer prepare.Post × Answer check-read.Post
    × Determined (λ r s. flat_after_write r s.1.0.now s.1.1.0.now) read-0-write-1.Post
    × Determined (λ r s. flat_after_write r s.1.0.now s.1.1.0.now) read-1-write-1.Post
    × Determined (λ r s. flat_after_write r s.1.0.now s.1.1.0.now) read-2-write-1.Post
pools_determined = (by_definition, by_definition, by_definition, by_definition, by_definition, by_definition)

pub file_determined : Answer read-patch.Post
file_determined = by_definition

pub states_determined : Answer new-states.Post
states_determined = by_definition

-- A RUN: its answer with the records, and all three slices that it is lent to change
pub run_determined : Determined (λ r s. flat_after r s.1.1.1.1.1.1.0.now s.1.1.1.1.1.1.1.0.now s.1.1.1.1.1.1.1.1.1.0.now) run.Post
run_determined = by_definition

-- the form in which each answer crosses
pub crossing_determined : Answer flat-made.Post × Answer flat-prepared.Post × Answer flat-wrote.Post
    × Answer flat-answer.Post × Answer flat-ran.Post × Answer flat-read.Post
crossing_determined = (by_definition, by_definition, by_definition, by_definition, by_definition, by_definition)

-- ---- of a lent cursor: the contract over what was lent and what stands there then; `cursor_is` says by `refl` that what is written here is its `ensures`
abbrev pub Lent : MutBor Cursor × ℕ → Told → MutBor Cursor → Type 0
Lent a r c = outcome r c.now ≡ crossed told_of (advanced_there a.0.now a.1)

pub cursor_is : {M : Type 1} {𝓤 : Ura M} (𝓛 : Logic 𝓤) (at_mem : Memory → SProp 𝓤) (run : Routine → Fun 𝓤) (κs : Lfts 1) (c c' : MutBor Cursor) (n : ℕ) (r : Told)
    → advance.ensures-1 𝓛 κs at_mem run c n (record { entry = c; exit = c' }) (record { entry = n; exit = n }) r ≡ fact 𝓤 (Lent (c, n) r c')
cursor_is 𝓛 at_mem run κs c c' n r = refl

pub cursor_determined : Determined (λ r s. outcome r s.now) (λ (κs : Lfts 1). Lent)
cursor_determined = by_definition
