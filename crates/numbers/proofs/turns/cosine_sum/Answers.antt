-- `numbers::turns::cosine_sum` meets its contract. The array of the code is the definition's list: each coefficient is computed, 1 over n factorial rounded once, and compared to the last bit.
-- Assumes nothing.
use lib.Ieee.{of_bits, round}
use Rattle.numbers.specs.Turns.{coefficients, cosine_coefficients, cosine_sum}
use Rattle.numbers.proofs.turns.cosine_sum.Goals as goal

pub returns : goal.returns
unfolding cosine_sum cosine_coefficients coefficients of_bits round
returns c = c.horner.ensures
