-- The all-pass delay over any reading of its ring, and what a single operation leaves, for any input (01, "Delay line"). Assumes nothing.
use Rattle.std.specs.Prelude.{List, length, slice_set, Float}
use Rattle.std.specs.Float.{binary64}
use Rattle.std.specs.Float.Ieee.{add, sub, mul}
use Rattle.numbers.specs.Outcome.{Outcome, outcome}
use Rattle.util.specs.declared.answered.Answered.{Answered}
use Rattle.util.specs.declared.delay_line.Read.{Read}
use Rattle.util.specs.declared.all_pass.AllPassDelay.{AllPassDelay}
use Rattle.util.specs.DelayLine.{next_slot, Steps, processed}
use Rattle.util.specs.Interaction.{step}

abbrev pub fed_back : AllPassDelay → Float → AllPassDelay
fed_back a g = record { cursor = a.cursor; feedback = g }

-- "AllPass: r = x + g*delayed, write r, answer delayed - r*g.", after an advance
abbrev pub pass_on : Steps AllPassDelay
pass_on reading a ring x =
    let at = next_slot (length ring) a.cursor.position in
    let g = a.feedback in
    let delayed = reading ring at in
    let r = add binary64 x (mul binary64 g delayed) in
    outcome (step (record { cursor = record { position = at }; feedback = g }) (sub binary64 delayed (mul binary64 r g))) (slice_set ring at r)

unfoldable pub passed : Read → AllPassDelay → List Float → Float → Outcome (Answered AllPassDelay) (List Float)
passed read a ring x = processed pass_on a.cursor read a ring x
