-- `numbers::turns::sine_turns` meets its contract. The tests of the code are those of the definition, the first two as one.
-- Assumes nothing.
use lib.Ieee.{of_bits}
use Rattle.numbers.specs.Constants.{zero64, one64}
use Rattle.numbers.specs.Turns.{sine_of, turn_sine}
use Rattle.numbers.proofs.Range.{both_tests, contains_is}
use Rattle.numbers.proofs.Sign.{zero_less}
use Rattle.numbers.proofs.turns.Sums.{quarter_fits}
use Rattle.numbers.proofs.turns.sine_turns.Goals as goal

pub returns-then-not-contains : goal.returns-then-not-contains
unfolding sine_of of_bits
returns-then-not-contains c =
    let ends = c.new.ensures in
    let within = contains_is zero64 one64 c.args.x _ _ _ _ ends.start ends.end ends.exhausted c.contains.ensures.value in
    simp (both_tests, within, c.if-not-contains.true)

pub returns-then-x : goal.returns-then-x
unfolding sine_of turn_sine
returns-then-x c =
    let ends = c.new.ensures in
    let within = contains_is zero64 one64 c.args.x _ _ _ _ ends.start ends.end ends.exhausted c.contains.ensures.value in
    simp (both_tests, within, c.if-not-contains.false, c.if-x.true, c.quarter_sine-s.ensures, c.reduced_turn.ensures)

pub returns : goal.returns
unfolding sine_of turn_sine
returns c =
    let ends = c.new.ensures in
    let within = contains_is zero64 one64 c.args.x _ _ _ _ ends.start ends.end ends.exhausted c.contains.ensures.value in
    simp (both_tests, within, c.if-not-contains.false, c.if-x.false, c.quarter_sine-s.ensures, c.reduced_turn.ensures) (zero_less _ (quarter_fits _))
