-- `microwave::window::shaped_blocks` meets its contract: the loop's invariant is `Writing`, of the shape over its inputs as signals, and each turn writes a block. Assumes nothing.
use Rattle.std.proofs.Common.{◌-◌}
use Rattle.magnetron.specs.Inside.Source.{signal_of}
use Rattle.magnetron.proofs.Writing.{Writing}
use Rattle.microwave.proofs.window.shaped_blocks.Given as goal

abbrev pub invariant-loop-i : goal.invariant-loop-i
invariant-loop-i g l = Writing l.initial.own l.target (λ n. g.S.Shaping.shaped_by l.shape (signal_of l.first l.initial.own l.other n) (signal_of l.second l.initial.own l.other n)) l.own l.i

abbrev pub decreases-loop-i : goal.decreases-loop-i
decreases-loop-i g l = l.target.samples - l.i
