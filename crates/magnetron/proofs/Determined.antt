-- Each public contract of `magnetron` determines what is seen of a call: its result and every slice that it may change. `Reads.Post`, which Rattle
-- makes of a function's `ensures`, is the contract itself: no copy of it is written here. Assumes nothing.
use mathlib.Core.Path.{◌≡◌}
use Rattle.numbers.specs.Outcome.{Answer, Determined, by_definition, as_follows, outcome}
use Rattle.magnetron.specs.Single.{SameLoan, AfterWrite, after_write, lent, what_is_lent_to_write, what_is_lent}
use Rattle.magnetron.specs.declared.lent.LentMut.{LentMut}
use Rattle.magnetron.specs.declared.write.Wrote.{Wrote}
use Rattle.magnetron.proofs.buffer.BufferIndex.stage_activity.Reads as stage-activity
use Rattle.magnetron.proofs.buffer.BufferIndexFromUsize.from.Reads as from
use Rattle.magnetron.proofs.buffer.buffer_of.Reads as buffer-of
use Rattle.magnetron.proofs.buffer.Marks.at.Reads as at
use Rattle.magnetron.proofs.buffer.Marks.clear.Reads as clear
use Rattle.magnetron.proofs.pool.Pools.marks.Reads as marks
use Rattle.magnetron.proofs.pool.Pools.with_marks.Reads as with-marks
use Rattle.magnetron.proofs.pool.Pools.set_reset.Reads as set-reset
use Rattle.magnetron.proofs.pool.Pools.base_of.Reads as base-of
use Rattle.magnetron.proofs.prepare.new_pool.Reads as new-pool
use Rattle.magnetron.proofs.lent.Lent.prepare.Reads as prepare
use Rattle.magnetron.proofs.check.pool_ok.Reads as pool-ok
use Rattle.magnetron.proofs.check.shape_ok.Reads as shape-ok
use Rattle.magnetron.proofs.check.window_ok.Reads as window-ok
use Rattle.magnetron.proofs.check.has.Reads as has
use Rattle.magnetron.proofs.check.all_there.Reads as all-there
use Rattle.magnetron.proofs.inputs.is_input.Reads as is-input
use Rattle.magnetron.proofs.check.no_clash.Reads as no-clash
use Rattle.magnetron.proofs.outputs.Outputs.there.Reads as there
use Rattle.magnetron.proofs.outputs.Outputs.differ.Reads as differ
use Rattle.magnetron.proofs.outputs.Outputs.clear_of.Reads as clear-of
use Rattle.magnetron.proofs.outputs.Outputs.clear.Reads as clear-outputs
use Rattle.magnetron.proofs.outputs.Outputs.louder.Reads as louder
use Rattle.magnetron.proofs.lent.Lent.check_prepare.Reads as check-prepare
use Rattle.magnetron.proofs.source.source_of.Reads as source-of
use Rattle.magnetron.proofs.source.fetch.Reads as fetch
use Rattle.magnetron.proofs.block.fetch_block.Reads as fetch-block
use Rattle.magnetron.proofs.block.scaled.Reads as scaled
use Rattle.magnetron.proofs.block.write_block.Reads as write-block
use Rattle.magnetron.proofs.output.mix.Reads as mix
use Rattle.magnetron.proofs.output.write_sample.Reads as write-sample
use Rattle.magnetron.proofs.lent.LentMut.shared.Reads as shared
use Rattle.magnetron.proofs.lent.LentMut.write_1.Reads as write-1
use Rattle.magnetron.proofs.lent.LentMut.read_0_write_1.Reads as read-0-write-1
use Rattle.magnetron.proofs.lent.LentMut.read_1_write_1.Reads as read-1-write-1
use Rattle.magnetron.proofs.lent.LentMut.read_2_write_1.Reads as read-2-write-1
use Rattle.magnetron.proofs.lent.Lent.check_read.Reads as check-read
use Rattle.magnetron.proofs.lent.Lent.read.Reads as read

pub buffer_determined : Answer stage-activity.Post × Answer from.Post × Answer buffer-of.Post × Answer at.Post × Answer clear.Post
buffer_determined = (by_definition, by_definition, by_definition, by_definition, by_definition)

pub pool_determined : Answer marks.Post × Answer with-marks.Post × Answer set-reset.Post × Answer base-of.Post
pool_determined = (by_definition, by_definition, by_definition, by_definition)

pub prepare_determined : Determined (λ r s. outcome r s.1.1.0.now) new-pool.Post × Answer prepare.Post
prepare_determined = (by_definition, by_definition)

pub check_determined : Answer pool-ok.Post × Answer shape-ok.Post × Answer window-ok.Post × Answer has.Post × Answer all-there.Post
    × Answer no-clash.Post × Answer check-prepare.Post
check_determined = (by_definition, by_definition, by_definition, by_definition, by_definition, by_definition, by_definition)

pub inputs_determined : Answer is-input.Post
inputs_determined = by_definition

pub outputs_determined : Answer there.Post × Answer differ.Post × Answer clear-of.Post × Answer clear-outputs.Post × Answer louder.Post
outputs_determined = (by_definition, by_definition, by_definition, by_definition, by_definition)

pub source_determined : Answer source-of.Post × Answer fetch.Post
source_determined = (by_definition, by_definition)

pub block_determined : Answer fetch-block.Post × Answer scaled.Post × Determined (λ r s. s.0.now) write-block.Post
block_determined = (by_definition, by_definition, by_definition)

pub target_determined : Answer mix.Post × Determined (λ r s. s.0.now) write-sample.Post
target_determined = (by_definition, by_definition)

-- of a write: its answer, and all that its loan holds at exit. The samples are the definition's (`wrote`), and the pools, the zeros and the window are
-- those that were lent (`same`).
seen_of_loan : (before after : LentMut) {r : Wrote} {w : AfterWrite} → SameLoan before after → after_write r after.internal.now after.external.now ≡ w
    → outcome r (what_is_lent_to_write after) ≡ outcome w.wrote (lent before.pools w.internal w.external before.zeros.now before.window)
seen_of_loan before after same wrote = λ i. outcome (wrote i).wrote (lent (same.3 i) (wrote i).internal (wrote i).external (same.2 i).now (same.4 i))

pub write_determined : Determined (λ r s. outcome r (what_is_lent_to_write s.0.now)) write-1.Post
    × Determined (λ r s. outcome r (what_is_lent_to_write s.0.now)) read-0-write-1.Post
    × Determined (λ r s. outcome r (what_is_lent_to_write s.0.now)) read-1-write-1.Post
    × Determined (λ r s. outcome r (what_is_lent_to_write s.0.now)) read-2-write-1.Post
write_determined = (
  as_follows (λ κs a r s h. seen_of_loan a.0.now s.0.now h.0 h.1),
  as_follows (λ κs a r s h. seen_of_loan a.0.now s.0.now h.0 h.1),
  as_follows (λ κs a r s h. seen_of_loan a.0.now s.0.now h.0 h.1),
  as_follows (λ κs a r s h. seen_of_loan a.0.now s.0.now h.0 h.1),
)

pub read_determined : Answer check-read.Post × Determined (λ r s. r.now) read.Post
read_determined = (by_definition, by_definition)

pub shared_determined : Determined (λ r s. what_is_lent r) shared.Post
shared_determined = by_definition
