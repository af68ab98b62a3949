-- `microwave::window::one_pole_window` meets its contract: the loop's, of a machine that has no ring. Assumes nothing.
use Rattle.microwave.specs.OnePole.{one_pole_step}
use Rattle.microwave.proofs.window.Loops.{windowed_alone}
use Rattle.microwave.proofs.window.one_pole_window.Goals as goal

pub returns : goal.returns
returns c = windowed_alone (one_pole_step c.args.k) c.args.memory _ _ c.machine_loop.ensures
