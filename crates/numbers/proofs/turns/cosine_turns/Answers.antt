-- `numbers::turns::cosine_turns` meets its contract. The tests of the code are those of the definition, the first two as one.
-- Assumes nothing.
use lib.Ieee.{of_bits}
use Rattle.numbers.specs.Constants.{zero64, half64}
use Rattle.numbers.specs.Turns.{cosine_of}
use Rattle.numbers.proofs.Range.{both_tests, contains_is}
use Rattle.numbers.proofs.turns.cosine_turns.Goals as goal

pub returns-then-not-contains : goal.returns-then-not-contains
unfolding cosine_of of_bits
returns-then-not-contains c =
    let ends = c.new.ensures in
    let within = contains_is zero64 half64 c.args.x _ _ _ _ ends.start ends.end ends.exhausted c.contains.ensures.value in
    simp (both_tests, within, c.if-not-contains.true)

pub returns-then-x : goal.returns-then-x
unfolding cosine_of
returns-then-x c =
    let ends = c.new.ensures in
    let within = contains_is zero64 half64 c.args.x _ _ _ _ ends.start ends.end ends.exhausted c.contains.ensures.value in
    simp (both_tests, within, c.if-not-contains.false, c.if-x.true, c.quarter_cosine.ensures)

pub returns-else-x : goal.returns-else-x
unfolding cosine_of
returns-else-x c =
    let ends = c.new.ensures in
    let within = contains_is zero64 half64 c.args.x _ _ _ _ ends.start ends.end ends.exhausted c.contains.ensures.value in
    simp (both_tests, within, c.if-not-contains.false, c.if-x.false, c.quarter_cosine-else-x.ensures)
