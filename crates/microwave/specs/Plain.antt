-- The stages without memory, a sample at a time: Pass, Pow3, Clip, RingModulator, and one side of Pan. Rests on the small functions of f64. Assumes nothing.
use Rattle.std.specs.Prelude.{Float}
use Rattle.std.specs.Float.Ieee.{neg}
use Rattle.numbers.specs.Small.{abs_of, max_of, min_of}
use Rattle.microwave.specs.Arithmetic.{f64_arithmetic}
use Rattle.microwave.specs.declared.plain.Shape.{Shape}
use Rattle.microwave.specs.declared.plain.Shape.TheVariants.{Pass, Pow3, Clip, RingModulator}
open f64_arithmetic use {◌⊗◌}

-- "Clip: limit |l|, max(s, -limit), then min."
abbrev pub clip_limit : Float → Float
clip_limit l = abs_of l

abbrev pub clipped : Float → Float → Float
clipped limit s = min_of (max_of s (neg limit)) limit

-- as mod.rs has them, with the multiplications from left to right
abbrev pub shaped_of : Shape → Float → Float → Float
shaped_of Pass first second = first
shaped_of Pow3 first second = first ⊗ first ⊗ first
shaped_of (Clip limit) first second = clipped limit first
shaped_of RingModulator first second = first ⊗ second

-- "s times left", or right
abbrev pub gained : Float → Float → Float
gained gain s = s ⊗ gain
