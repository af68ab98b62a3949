-- `magnetron::content::lay_blocks` meets its contract: the loop's invariant is `Writing`, of the content as a signal, and each turn writes a block. Assumes nothing.
use Prim.Native.Nat.{◌*◌}
use Rattle.magnetron.specs.Inside.Content.{content_of}
use Rattle.magnetron.proofs.Writing.{Writing}
use Rattle.magnetron.proofs.content.lay_blocks.Given as goal

abbrev pub invariant-loop-block : goal.invariant-loop-block
invariant-loop-block l = Writing l.initial.own l.target (content_of l.content l.initial.own l.other) l.own (8 * l.block)
