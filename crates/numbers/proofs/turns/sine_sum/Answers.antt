-- `numbers::turns::sine_sum` meets its contract. The array of the code is the definition's list: each coefficient is computed, 1 over n factorial rounded once, and compared to the last bit.
-- Assumes nothing.
use lib.Ieee.{of_bits, round}
use Rattle.numbers.specs.Turns.{coefficients, sine_coefficients, sine_sum}
use Rattle.numbers.proofs.turns.sine_sum.Goals as goal

pub returns : goal.returns
unfolding sine_sum sine_coefficients coefficients of_bits round
returns c = rw c.horner.ensures
