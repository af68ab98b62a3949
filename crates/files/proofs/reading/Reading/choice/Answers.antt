-- `files::reading::Reading::choice` meets its contract: both ways of the test. Assumes nothing.
use Rattle.std.proofs.Common.{refl}
use borrow.Author.Tests.{lt-ltb, le-ltb}
use Rattle.files.specs.File.{choice}
use Rattle.files.proofs.reading.Reading.choice.Goals as goal

pub returns-then-limit-gt0-clause-said : goal.returns-then-limit-gt0-clause-said
unfolding choice
returns-then-limit-gt0-clause-said c = rw (lt-ltb _ _ c.if-limit-gt0.true, ← c.from.ensures) c.one_of.ensures.said

pub returns-else-limit-gt0-clause-said : goal.returns-else-limit-gt0-clause-said
unfolding choice
returns-else-limit-gt0-clause-said c = rw (le-ltb _ _ c.if-limit-gt0.false) refl
