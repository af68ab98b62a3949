-- `microwave::window::oscillator_window` meets its contract: the loop's, of a machine that has no ring. Assumes nothing.
use Rattle.microwave.specs.Oscillator.{oscillated}
use Rattle.microwave.proofs.window.Loops.{windowed_alone}
use Rattle.microwave.proofs.window.oscillator_window.Goals as goal

pub returns : goal.returns
returns c = windowed_alone (oscillated c.args.k) c.args.phases _ _ c.machine_loop.ensures
