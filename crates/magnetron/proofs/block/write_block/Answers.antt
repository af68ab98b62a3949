-- `magnetron::block::write_block` meets its contract: to multiply first and then to store or add is what `mix` does. Assumes nothing.
use mathlib.Core.Path.{ap, ◌∙◌}
use mathlib.Core.Bool.{cond}
use Prim.Native.Nat.{◌+◌}
use lib.Ieee.{Float, nan, binary64, add}
use Rattle.magnetron.specs.Inside.Mix.{from}
use Rattle.magnetron.proofs.Windows.{tab-at}
use Rattle.magnetron.proofs.Blocks.{window_ext}
use Rattle.magnetron.proofs.block.write_block.Goals as goal

pub returns : goal.returns
returns c =
    let old = from c.args.own.now (c.args.target.base + c.args.i) in
    c.put_block.ensures
    ∙ window_ext _ _ 8 _ _ (λ k h. ap (λ (v : Float). cond c.args.target.stale v (add binary64 (old k) v)) (rw c.scaled.ensures (tab-at 8 _ k nan h)))
