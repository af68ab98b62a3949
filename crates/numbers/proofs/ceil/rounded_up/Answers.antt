-- `numbers::ceil::rounded_up` meets its contract. The two calls' contracts, put together by congruence.
-- Assumes nothing.
use Rattle.numbers.specs.Ceil.{gap_of}
use Rattle.numbers.proofs.ceil.rounded_up.Goals as goal

pub returns : goal.returns
unfolding gap_of
returns c = cc
