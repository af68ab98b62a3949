-- `flat::reach::reach_numbers` meets its contract: each number is that of the answer there. Assumes nothing.
use Rattle.std.proofs.Common.{rules}
use Rattle.util.specs.declared.reach.Reach.TheVariants.{Within}
use Rattle.magnetron.proofs.Bridge.{tab_of}
use Rattle.flat.proofs.reach.reach_numbers.Goals as goal

pub returns : goal.returns
returns c = tab_of _ 32 _ 0 c.map.ensures.items.long (λ k h. search (rules, c.map.ensures.items.at k Within 0 h))
