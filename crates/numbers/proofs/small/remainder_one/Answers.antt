-- `numbers::small::remainder_one` meets its contract: x minus its whole part, with x's sign, is the remainder.
-- Assumes nothing.
use denote.Floats.{passes}
use Rattle.numbers.proofs.small.Remainder.{rem_fract}
use Rattle.numbers.proofs.small.remainder_one.Goals as goal

pub returns : goal.returns
returns c = rw (c.copysign.ensures, c.whole_part.ensures) (rem_fract _ (passes _ c.well_formed.0.1))
