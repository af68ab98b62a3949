use Rattle.std.proofs.Common.{◌∙◌, ap₂, arith}
use lib.Ieee.{nan}
use Rattle.magnetron.proofs.Windows.{tab-at}
use Rattle.magnetron.proofs.Writing.{writing_start}
use Rattle.magnetron.proofs.Blocks.{block_kept, writing_block}
use Rattle.microwave.proofs.window.shaped_blocks.Goals as goal

pub loop-i-init : goal.loop-i-init
loop-i-init g c = writing_start c.requires.0

pub loop-i-preserved : goal.loop-i-preserved
loop-i-preserved g c =
    let first = block_kept c.loop-i.invariant 8 (omega arith) c.args.first c.args.other.now c.requires.1 c.fetch_block-x.ensures in
    let second = block_kept c.loop-i.invariant 8 (omega arith) c.args.second c.args.other.now c.requires.2 c.fetch_block-y.ensures in
    (writing_block c.loop-i.invariant 8 (omega arith) c.shaped_block.result
    (λ k h. rw c.shaped_block.ensures (tab-at 8 _ k nan h) ∙ ap₂ (g.S.Shaping.shaped_by c.args.shape) (first k h) (second k h)) c.write_block.ensures)

pub overflow_sub-target : goal.overflow_sub-target
overflow_sub-target g c = omega (arith, c.loop-i.invariant.upto)
