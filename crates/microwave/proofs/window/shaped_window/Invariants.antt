-- `microwave::window::shaped_window` meets its contract: blocks have written the samples before the loop, whose invariant is `Resumed`, of the shape over its inputs as signals. Assumes nothing.
use Rattle.magnetron.specs.Inside.Source.{signal_of}
use Rattle.magnetron.specs.Inside.Target.{ClearOf}
use Rattle.magnetron.proofs.Blocks.{Resumed}
use Rattle.microwave.proofs.window.shaped_window.Given as goal

abbrev pub invariant-loop-i : goal.invariant-loop-i
invariant-loop-i g l = Resumed (λ d. ClearOf l.first d l.other l.target × ClearOf l.second d l.other l.target) (λ d n. g.S.Shaping.shaped_by l.shape (signal_of l.first d l.other n) (signal_of l.second d l.other n)) l.target l.initial.own l.initial.i l.own l.i
