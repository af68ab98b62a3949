-- `magnetron::block::put_block` meets its contract: after k samples the first k of the block are placed. What is read of the pool lies ahead of what is written.
-- Assumes nothing.
use mathlib.Core.Path.{◌≡◌}
use lib.ListN.{length, get_or}
use lib.Ieee.{nan}
use Rattle.magnetron.specs.Signals.{window}
use Rattle.magnetron.specs.Inside.Mix.{placed}
use Rattle.magnetron.proofs.block.put_block.Given as goal

abbrev pub invariant-loop-k : goal.invariant-loop-k
invariant-loop-k l = (length l.own ≡ length l.initial.own) × (l.own ≡ window l.initial.own l.at l.k (placed l.initial.own l.at l.stale (λ n. get_or l.fn.block n nan)))
