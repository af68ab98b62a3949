-- `stages::machine::Machine::play` meets its contract: each arm is its window's contract; the other parts of the state stay. Assumes nothing.
use Rattle.std.proofs.Common.{refl}
use Rattle.stages.proofs.Lens.{lifted, phases, one_pole_lem, biquad, string, plain_stepped, gain-stepped}
use Rattle.stages.proofs.machine.Machine.play.Goals as goal

pub returns-in-Plain : goal.returns-in-Plain
returns-in-Plain c =
    rw c.in-Plain.is (plain_stepped c.args.inputs c.args.other.now c.plain_window.ensures)

pub returns-in-Oscillator : goal.returns-in-Oscillator
returns-in-Oscillator c =
    rw c.in-Oscillator.is (lifted phases c.args.inputs c.args.other.now refl refl c.oscillator_window-state.ensures)

pub returns-in-OnePole : goal.returns-in-OnePole
returns-in-OnePole c =
    rw c.in-OnePole.is (lifted one_pole_lem c.args.inputs c.args.other.now refl refl c.one_pole_window-state.ensures)

pub returns-in-Biquad : goal.returns-in-Biquad
returns-in-Biquad c =
    rw c.in-Biquad.is (lifted biquad c.args.inputs c.args.other.now refl refl c.biquad_window-state.ensures)

pub string_window-state-requires : goal.string_window-state-requires
string_window-state-requires c =
    record { lies_in = (c.requires.lies, c.requires.first); in_ring = rw c.in-Waveguide.is at c.requires.ring }

pub returns-in-Waveguide : goal.returns-in-Waveguide
returns-in-Waveguide c =
    rw c.in-Waveguide.is (lifted string c.args.inputs c.args.other.now refl refl c.string_window-state.ensures)

pub returns-in-Gain : goal.returns-in-Gain
returns-in-Gain c =
    rw c.in-Gain.is (gain-stepped c.args.inputs c.args.other.now c.gain_window.ensures)
