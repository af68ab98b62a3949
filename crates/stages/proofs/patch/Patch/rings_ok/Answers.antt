use Rattle.std.proofs.Common.{arith}
use Rattle.answers.proofs.Tests.{holds, fails}
use Rattle.stages.specs.Rings.{fine_in, rings_ok}
use Rattle.stages.proofs.EndToEnd.{fine-at, there-at, all_none, all_more, all_fails, summed_start, summed_more, rings_fit}
use Rattle.stages.proofs.patch.Patch.rings_ok.Goals as goal

pub loop-k-init : goal.loop-k-init
loop-k-init c = (summed_start _ _, all_none _)

pub returns-then-not-ring_fine : goal.returns-then-not-ring_fine
unfolding rings_ok
returns-then-not-ring_fine c =
    let t = c.there-stage-items.ensures in
    let e = rw (there-at c.args.self.now t.stages t.count _ c.loop-k-test.true) at c.ring_fine.ensures in
    rw (all_fails (fine_in c.args.self.now c.args.states.now.stages) c.args.self.now.count c.loop-k.k (omega (arith, t.count, c.loop-k-test.true)) (fails e c.if-not-ring_fine.true))

pub loop-k-preserved : goal.loop-k-preserved
loop-k-preserved c =
    let t = c.there-stage-items.ensures in
    let here = there-at c.args.self.now t.stages t.count _ c.loop-k-test.true in
    let fine = holds (rw here at c.ring_fine.ensures) c.if-not-ring_fine.false in (
      summed_more _ _ _ _ _ c.loop-k.invariant.0 (omega (arith, t.count, c.loop-k-test.true)) (rw here at c.ring_len-end.ensures) (fine-at c.args.self.now c.args.states.now.stages c.loop-k.k fine),
      all_more _ _ c.loop-k.invariant.1 fine,
    )

pub returns : goal.returns
returns c =
    rings_fit _ _ _ _ _ c.loop-k.invariant.0 c.loop-k.invariant.1 (omega (arith, c.there-stage-items.ensures.count, c.loop-k-test.false))
