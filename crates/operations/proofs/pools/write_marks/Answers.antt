-- `operations::pools::write_marks` meets its contract: what is written is one row of words after the other. Assumes nothing.
use Rattle.stream.proofs.Writes.{writes-append}
use Rattle.operations.proofs.pools.write_marks.Goals as goal

pub returns : goal.returns
returns c = writes-append _ _ _ _ _ c.write_pool_marks.ensures c.write_pool_marks-2.ensures
