use mathlib.Core.Path.{refl, ◌∙◌}
use Prim.Native.Nat.{◌+◌}
use native.Mathlib.Omega.{arith}
use lib.ListN.{length-set}
use lib.Ieee.{nan}
use Rattle.magnetron.proofs.Windows.{window_none, window-next, read_after}
use Rattle.magnetron.proofs.block.put_block.Goals as goal

pub loop-k-init : goal.loop-k-init
loop-k-init c = (refl, window_none _ _ _)

pub loop-k-preserved : goal.loop-k-preserved
loop-k-preserved c =
    let old = read_after c.args.own.now c.args.at _ c.loop-k.k c.loop-k.own (c.args.at + c.loop-k.k) nan (omega arith) (omega arith) c.loop-k.invariant.1 in (
      length-set c.loop-k.own _ _ ∙ c.loop-k.invariant.0,
      window-next c.args.own.now c.args.at _ c.loop-k.k c.loop-k.own _ (omega arith) c.loop-k.invariant.1 (c.store_or_add.ensures ∙ rw old),
    )
