-- `magnetron::block::fetch_block` meets its contract: each sample is what the function answered there. Assumes nothing.
use lib.Ieee.{nan}
use Rattle.std.proofs.Common.{rules}
use Rattle.magnetron.proofs.Bridge.{tab_of}
use Rattle.magnetron.proofs.block.fetch_block.Goals as goal

pub returns : goal.returns
returns c = tab_of _ 8 _ nan c.block_of.ensures.long (λ k h. search (rules, c.block_of.ensures.each k h))
