-- The two one-poles in the Rust's order of operations (filter.rs). Assumes nothing.
use Rattle.std.specs.Prelude.{Float}
use Rattle.numbers.specs.Constants.{one64, tau64}
use Rattle.numbers.specs.Small.{recip_of}
use Rattle.util.specs.declared.step.Step.{Step}
use Rattle.util.specs.Interaction.{step}
use Rattle.microwave.specs.Arithmetic.{f64_arithmetic}
use Rattle.microwave.specs.declared.filter.OnePole.{OnePole}
use Rattle.microwave.specs.declared.filter.OnePole.TheVariants.{LowPass, HighPass}
use Rattle.microwave.specs.declared.filter.OnePoleMemory.{OnePoleMemory}
open f64_arithmetic use {◌⊕◌, ◌⊖◌, ◌⊗◌, ◌⊘◌}

-- "LowPass: omega = (TAU*cutoff)*w."
abbrev pub low_pass_alpha : Float → Float → Float
low_pass_alpha cutoff w =
    let omega = (tau64 ⊗ cutoff) ⊗ w in
    recip_of (one64 ⊕ recip_of omega)

-- "HighPass: (TAU*w)*cutoff. The two products round differently."
abbrev pub high_pass_alpha : Float → Float → Float
high_pass_alpha cutoff w =
    let omega = (tau64 ⊗ w) ⊗ cutoff in
    one64 ⊘ (one64 ⊕ omega)

-- The next output from the last one; the high-pass keeps its last input too. "a run changes only its own kind's part"
unfoldable pub one_pole_step : OnePole → OnePoleMemory → Float → Step OnePoleMemory
one_pole_step (LowPass alpha) m input =
    let out = m.low ⊕ alpha ⊗ (input ⊖ m.low) in
    step (record { low = out; high = m.high; last_input = m.last_input }) out
one_pole_step (HighPass alpha) m input =
    let out = alpha ⊗ ((m.high ⊕ input) ⊖ m.last_input) in
    step (record { low = m.low; high = out; last_input = input }) out

-- a step's two parts
abbrev pub one_pole_next : OnePole → OnePoleMemory → Float → OnePoleMemory
one_pole_next k m input = (one_pole_step k m input).next

abbrev pub one_pole_out : OnePole → OnePoleMemory → Float → Float
one_pole_out k m input = (one_pole_step k m input).sample
