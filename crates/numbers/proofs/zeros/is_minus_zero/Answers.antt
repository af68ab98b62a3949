-- `numbers::zeros::is_minus_zero` meets its contract. -0.0 is the zero whose sign is minus.
-- Assumes nothing.
use denote.Floats.{passes}
use Rattle.numbers.proofs.Sign.{zero_minus}
use Rattle.numbers.proofs.zeros.is_minus_zero.Goals as goal

pub returns-then-x : goal.returns-then-x
returns-then-x c =
    rw (c.is_negative.ensures, zero_minus _ (passes _ c.well_formed.0.1), c.if-x.true)

pub returns-else-x : goal.returns-else-x
returns-else-x c = rw (zero_minus _ (passes _ c.well_formed.0.1), c.if-x.false)
