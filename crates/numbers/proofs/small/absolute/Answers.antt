-- `numbers::small::absolute` meets its contract. A parameter fits its format, so that nothing is lost in the subtraction.
-- Assumes nothing.
use denote.Floats.{passes}
use Rattle.numbers.proofs.Sign.{magnitude-below, magnitude_above}
use Rattle.numbers.proofs.small.absolute.Goals as goal

pub returns-then-x : goal.returns-then-x
returns-then-x c = magnitude-below _ (passes _ c.well_formed.0.1) c.if-x.true

pub returns-else-x : goal.returns-else-x
returns-else-x c = magnitude_above _ c.if-x.false
