-- `report::report::Report::with_all` meets its contract: each sample more by its bits. Assumes nothing.
use mathlib.Core.Path.{refl, sym, ◌∙◌}
use native.Mathlib.Omega.{arith}
use Rattle.std.proofs.Common.{rules}
use Rattle.report.proofs.Room.{fullest-one}
use Rattle.report.proofs.Walk.{walk_more, walk_done}
use Rattle.report.proofs.report.Report.with_all.Goals as goal

pub loop-sample-init : goal.loop-sample-init
loop-sample-init g c = (omega arith, refl)

pub loop-sample-preserved : goal.loop-sample-preserved
loop-sample-preserved g c =
    let w = c.loop-sample in
    let bits = c.bits.result in
    let more = walk_more g.S.Sample.bits_by w.report c.args.samples.now w.sample-index c.sample-item.result bits (omega arith) (search (rules, c.bits.ensures)) in (
      rw c.with_sample-report.ensures (omega (arith, fullest-one w.report bits)),
      rw c.with_sample-report.ensures (more ∙ w.invariant.1),
    )

pub returns : goal.returns
returns g c =
    let w = c.loop-sample in
    sym (walk_done g.S.Sample.bits_by w.report c.args.samples.now w.sample-index (omega arith)) ∙ w.invariant.1
