use Rattle.std.proofs.Common.{arith, rules}
use Rattle.magnetron.proofs.Blocks.{filled_start, filled_more}
use Rattle.microwave.proofs.plain.shaped_block.Goals as goal

pub loop-k-init : goal.loop-k-init
loop-k-init g c = filled_start (search rules)

pub loop-k-preserved : goal.loop-k-preserved
loop-k-preserved g c = filled_more c.loop-k.invariant (omega arith) c.shape.ensures
