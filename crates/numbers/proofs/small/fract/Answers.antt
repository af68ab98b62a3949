-- `numbers::small::fract` meets its contract: from 0 to below 2 the whole part is 0 or 1, and elsewhere `whole_part` has it.
-- Assumes nothing.
use Rattle.std.proofs.Common.{sym, ◌∙◌}
use Rattle.numbers.proofs.small.Fraction.{fract_first, fract_second}
use Rattle.numbers.proofs.small.fract.Goals as goal

pub returns-then-is_from : goal.returns-then-is_from
returns-then-is_from c = fract_first c.args.x (sym c.is_from.ensures ∙ c.if-is_from.true)

pub returns-then-is_from-2 : goal.returns-then-is_from-2
returns-then-is_from-2 c = fract_second c.args.x (sym c.is_from-else-is_from.ensures ∙ c.if-is_from-2.true)
