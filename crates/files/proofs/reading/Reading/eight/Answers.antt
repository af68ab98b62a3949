-- `files::reading::Reading::eight` meets its contract: a word as the cursor takes it, or too few bytes. Assumes nothing.
use Rattle.std.proofs.Common.{◌∙◌, sym, Some, None}
use Rattle.files.proofs.reading.Eight.{eight_read}
use Rattle.files.proofs.reading.Reading.eight.Goals as goal

pub returns-in_default-clause-said : goal.returns-in_default-clause-said
returns-in_default-clause-said c = rw c.at.ensures (eight_read _ _ None (sym c.in_default.is ∙ c.take.ensures))

pub returns-clause-said : goal.returns-clause-said
returns-clause-said c = eight_read _ _ (Some (c.in-Some.bits, c.in-Some.rest)) (sym c.in-Some.is ∙ c.take.ensures)
