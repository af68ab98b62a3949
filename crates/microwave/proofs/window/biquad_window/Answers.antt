-- `microwave::window::biquad_window` meets its contract: the loop's, of a machine that has no ring. Assumes nothing.
use Rattle.microwave.specs.Filter.{biquad_step}
use Rattle.microwave.proofs.window.Loops.{windowed_alone}
use Rattle.microwave.proofs.window.biquad_window.Goals as goal

pub returns : goal.returns
returns c = windowed_alone (biquad_step c.args.k) c.args.memory _ _ c.machine_window.ensures
