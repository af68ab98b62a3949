-- `engine::turn::Turn::render_second` meets its contract: the gain and the level that the side's parameters give, on the source. Assumes nothing.
use Rattle.microwave.specs.Parameter.{numbers_of}
use Rattle.engine.proofs.turn.Turns.{output_small, inputs-placed, lies, clears}
use Rattle.engine.proofs.turn.Turn.render_second.Goals as goal

pub target_of-target-requires : goal.target_of-target-requires
target_of-target-requires c = output_small c.requires

pub sources-inputs-requires : goal.sources-inputs-requires
sources-inputs-requires c = rw c.inputs.ensures (inputs-placed c.requires)

pub gain_window-requires : goal.gain_window-requires
gain_window-requires c =
    let start = c.requires in
    rw (c.target_of-target.ensures, c.sources-inputs.ensures, c.inputs.ensures) (lies start, (clears start).0)

pub returns : goal.returns
unfolding numbers_of
returns c =
    rw (c.gain_window.ensures, c.target_of-target.ensures, c.sources-inputs.ensures, c.inputs.ensures, c.numbers_found-numbers.ensures, c.required.ensures, c.of_pair.ensures)
