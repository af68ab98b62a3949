-- `numbers::small::is_negative` meets its contract. At a zero the reciprocal is the infinity of its sign; elsewhere `x < 0.0` is the sign.
-- Assumes nothing.
use Rattle.numbers.proofs.Sign.{zero_sign, other_sign}
use Rattle.numbers.proofs.small.is_negative.Goals as goal

pub returns-then-x : goal.returns-then-x
returns-then-x c = zero_sign _ c.if-x.true

pub returns-else-x : goal.returns-else-x
returns-else-x c = other_sign _ c.if-x.false
