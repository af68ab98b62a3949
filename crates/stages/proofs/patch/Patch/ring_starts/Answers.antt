use Rattle.std.proofs.Common.{◌≡◌, ◌<◌, ℕ, ◌+◌, set, replicate, ap, ◌∙◌, arith}
use Rattle.magnetron.proofs.Windows.{window_none, window-next}
use Rattle.stages.proofs.EndToEnd.{there-at, summed_start, summed_more}
use Rattle.stages.proofs.patch.Patch.ring_starts.Goals as goal

pub loop-k-init : goal.loop-k-init
loop-k-init c = (summed_start _ _, window_none (replicate 32 0) 0 _)

pub loop-k-preserved : goal.loop-k-preserved
loop-k-preserved c =
    let t = c.there-stage-items.ensures in
    let more : c.loop-k.k < c.args.self.now.count = omega (arith, t.count, c.loop-k-test.true) in
    let here : c.loop-k.k ≡ 0 + c.loop-k.k = omega arith in (
      summed_more _ _ _ _ _ c.loop-k.invariant.0 more (rw (there-at c.args.self.now t.stages t.count _ c.loop-k-test.true) at c.ring_len-end.ensures) (c.requires.each _ more),
      ap (λ (i : ℕ). set c.loop-k.at i c.loop-k.end) here
          ∙ window-next (replicate 32 0) 0 _ c.loop-k.k c.loop-k.at _ (omega (arith, c.requires.few, more)) c.loop-k.invariant.1 c.loop-k.invariant.0.sum,
    )
