use mathlib.Core.Path.{◌≡◌, ◌∙◌}
use Prim.Native.Nat.{◌+◌, ◌*◌}
use native.Mathlib.Omega.{arith}
use lib.Ieee.{nan}
use Rattle.magnetron.proofs.Windows.{tab-at}
use Rattle.magnetron.proofs.Writing.{writing_start}
use Rattle.magnetron.proofs.Blocks.{writing_block}
use Rattle.magnetron.proofs.content.Kept.{content_kept}
use Rattle.magnetron.proofs.content.lay_blocks.Goals as goal

pub loop-block-init : goal.loop-block-init
loop-block-init c = writing_start c.requires.0

pub loop-block-preserved : goal.loop-block-preserved
loop-block-preserved c =
    let next : 8 * c.loop-block.block + 8 ≡ 8 * (c.loop-block.block + 1) = omega arith in
    rw (← next)
    (writing_block c.loop-block.invariant 8 (omega arith) c.sample_block-x.result
    (λ k h. rw c.sample_block-x.ensures (tab-at 8 _ k nan h) ∙ content_kept c.loop-block.invariant (8 * c.loop-block.block + k) (omega arith) c.args.content c.args.other.now c.requires.1)
    c.write_block.ensures)
