use mathlib.Core.Path.{refl, sym}
use native.Mathlib.Omega.{arith}
use Rattle.engine.specs.Run.{after_by}
use Rattle.engine.proofs.Along.{started, ring-lies, part_lies, part_ready, stepped, along_here, along_more, along_end}
use Rattle.engine.proofs.run.run_order.Goals as goal

pub overflow_add-ring : goal.overflow_add-ring
overflow_add-ring c =
    let ok = along_here c.loop-x.invariant c.loop-x-test.true in
    omega (arith, ring-lies ok, started ok c.ring_starts-starts.ensures, c.ring_len.ensures, c.loop-x.invariant.rings)

pub offset_bounds-rings-at : goal.offset_bounds-rings-at
offset_bounds-rings-at c =
    let ok = along_here c.loop-x.invariant c.loop-x-test.true in
    omega (arith, ring-lies ok, started ok c.ring_starts-starts.ensures, c.loop-x.invariant.rings)

pub slice_bounds-ring-end : goal.slice_bounds-ring-end
slice_bounds-ring-end c =
    let ok = along_here c.loop-x.invariant c.loop-x-test.true in
    part_lies ok _ _ (started ok c.ring_starts-starts.ensures) c.ring_len.ensures

pub take-taken-requires : goal.take-taken-requires
take-taken-requires c =
    let ok = along_here c.loop-x.invariant c.loop-x-test.true in
    part_ready ok _ _ (started ok c.ring_starts-starts.ensures) c.ring_len.ensures

pub loop-x-preserved : goal.loop-x-preserved
loop-x-preserved c =
    let ok = along_here c.loop-x.invariant c.loop-x-test.true in
    along_more c.loop-x.invariant _ _ _ c.loop-x-test.true
    (stepped ok _ _ (started ok c.ring_starts-starts.ensures) c.ring_len.ensures
    c.take-taken.new.ring c.take-taken.auto.ring (rw c.outputs-outputs.ensures at c.clear-marks.ensures) c.take-taken.ensures.turned)
    (rw c.outputs-outputs.ensures at c.louder-activity.ensures) c.take-taken.ensures.reach_value

pub returns : goal.returns
unfolding after_by
returns c =
    let e = along_end c.loop-x.invariant c.loop-x-test.false in
    rw (c.with_marks.ensures, sym e.0, sym e.1, sym e.2) refl
