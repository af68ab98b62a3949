-- `numbers::zeros::less` meets its contract. Parameters fit their format, and of two that fit the difference is as `MinusZero.antt` says.
-- Assumes nothing.
use denote.Floats.{passes}
use Rattle.numbers.proofs.MinusZero.{less_law}
use Rattle.numbers.proofs.zeros.less.Goals as goal

pub returns : goal.returns
returns c = less_law _ _ (passes _ c.well_formed.0.1) (passes _ c.well_formed.1.0.1)
