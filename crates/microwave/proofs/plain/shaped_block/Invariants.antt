-- `microwave::plain::shaped_block` meets its contract: the loop's invariant is `Filled`, of the shape over its inputs. Assumes nothing.
use Rattle.std.proofs.Common.{get_or}
use lib.Ieee.{nan}
use Rattle.magnetron.proofs.Blocks.{Filled}
use Rattle.microwave.proofs.plain.shaped_block.Given as goal

abbrev pub invariant-loop-k : goal.invariant-loop-k
invariant-loop-k g l = Filled 8 (λ n. g.S.Shaping.shaped_by l.shape (get_or l.first n nan) (get_or l.second n nan)) l.block l.k
