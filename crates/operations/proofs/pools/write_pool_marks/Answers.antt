use native.Mathlib.Omega.{arith}
use Rattle.operations.proofs.Marks.{marks_one, marks_done}
use Rattle.operations.proofs.pools.write_pool_marks.Goals as goal

pub loop-mark-preserved : goal.loop-mark-preserved
loop-mark-preserved c =
    let w = c.loop-mark in
    λ b h. w.invariant b (marks_one c.args.stale.now w.mark-index _ _ b (omega arith) c.write_flag.ensures h)

pub returns : goal.returns
returns c =
    let w = c.loop-mark in
    w.invariant _ (marks_done c.args.stale.now w.mark-index _ (omega arith))
