-- `numbers::small::rem_euclid_one` meets its contract: from 0 to below 1 the remainder is x, and elsewhere `wrapped` has it.
-- Assumes nothing.
use Rattle.std.proofs.Common.{sym, ◌∙◌}
use denote.Floats.{passes}
use Rattle.numbers.proofs.small.Remainder.{rem_below}
use Rattle.numbers.proofs.small.rem_euclid_one.Goals as goal

pub returns-then-is_from : goal.returns-then-is_from
returns-then-is_from c = sym (rem_below _ (passes _ c.well_formed.0.1) (sym c.is_from.ensures ∙ c.if-is_from.true))
