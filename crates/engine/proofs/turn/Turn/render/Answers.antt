-- `engine::turn::Turn::render` meets its contract: the machine that the numbers settle, played on the sources. Assumes nothing.
use Rattle.stages.proofs.Settled.{settled_reach}
use Rattle.engine.specs.Inside.{numbers_in}
use Rattle.engine.proofs.turn.Turns.{output_small, inputs-placed, own_wired, playable, begun}
use Rattle.engine.proofs.turn.Turn.render.Goals as goal

pub target_of-target-requires : goal.target_of-target-requires
target_of-target-requires c = output_small (own_wired c.requires)

pub sources-inputs-requires : goal.sources-inputs-requires
sources-inputs-requires c = rw c.inputs.ensures (inputs-placed (own_wired c.requires))

pub play-state-requires : goal.play-state-requires
play-state-requires c =
    rw (c.settle-machine.ensures, c.enter.ensures, c.numbers-numbers.ensures, c.sources-inputs.ensures, c.inputs.ensures, c.target_of-target.ensures, c.first_number-level.ensures, c.level_asks.ensures)
    (playable c.requires)

pub returns : goal.returns
returns c =
    let a = c.args in
    record {
      reach_value = rw (c.reach-reach.ensures, c.settle-machine.ensures, c.numbers-numbers.ensures)
          (settled_reach (numbers_in a.self.now.values.now a.self.now.window a.self.now.stage) a.self.now.window a.self.now.state a.self.now.stage.kind);
      begun = begun c.requires _ _
          (rw (c.settle-machine.ensures, c.enter.ensures, c.numbers-numbers.ensures, c.sources-inputs.ensures, c.inputs.ensures, c.target_of-target.ensures, c.first_number-level.ensures, c.level_asks.ensures)
          at c.play-state.ensures);
    }
