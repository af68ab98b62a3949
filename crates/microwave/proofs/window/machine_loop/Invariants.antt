-- `microwave::window::machine_loop` meets its contract: the loop's invariant is `Looped`, of the machine, whose state is its memory with its ring; and the machine may step, on a ring as long as at first. Assumes nothing.
use Rattle.std.proofs.Common.{◌≡◌, length}
use Rattle.microwave.specs.Running.{running, next_by, out_by}
use Rattle.microwave.proofs.window.Loops.{Looped}
use Rattle.microwave.proofs.window.machine_loop.Given as goal

abbrev pub invariant-loop-i : goal.invariant-loop-i
invariant-loop-i g l = record {
  looped : Looped (next_by (g.M.Machine.step_of l.machine)) (out_by (g.M.Machine.step_of l.machine)) (running l.initial.memory l.initial.ring) l.initial.own l.other l.input l.target l.own (running l.memory l.ring) l.i;
  can_step : g.M.Machine.can_step l.machine (running l.memory l.ring);
  long : length l.ring ≡ length l.initial.ring;
}
