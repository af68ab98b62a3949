-- Each public contract of `flat` determines its result. `Reads.Post`, which Rattle makes of a function's `ensures`, is the contract itself: no copy of it
-- is written here. Assumes nothing.
use Rattle.numbers.specs.Outcome.{Answer, by_definition}
use Rattle.flat.proofs.form.form_of.Reads as form_of
use Rattle.flat.proofs.patch.no_flat.Reads as no-flat
use Rattle.flat.proofs.patch.no_parameter.Reads as no-parameter
use Rattle.flat.proofs.patch.patch_of.Reads as patch-of
use Rattle.flat.proofs.reach.reach_numbers.Reads as reach-numbers
use Rattle.flat.proofs.stage.stage_of.Reads as stage-of

pub form_determined : Answer form_of.Post
form_determined = by_definition

pub stage_determined : Answer stage-of.Post
stage_determined = by_definition

pub patch_determined : Answer no-parameter.Post × Answer no-flat.Post × Answer patch-of.Post
patch_determined = (by_definition, by_definition, by_definition)

pub reach_determined : Answer reach-numbers.Post
reach_determined = by_definition
