-- `util::reading::ReadReading::read` meets its contract: a fraction's delay is within the ring, and is what `delay_at` answers for it. Assumes nothing.
use Rattle.std.proofs.Common.{◌≡◌, ◌∙◌, arith}
use Rattle.util.specs.DelayLine.{delay_of}
use Rattle.util.proofs.Delay.{delay-there, delay-below}
use Rattle.util.proofs.reading.ReadReading.read.Goals as goal
use Rattle.util.proofs.reading.ReadReading.read.Goals.{After-delay_at}

delay-is : (c : After-delay_at) → c.delay_at.result ≡ delay_of c.args.place.slots c.in-Fract.fract_offset
delay-is c = c.delay_at.ensures ∙ delay-there _ _ c.args.place.there.1 (omega arith)

pub read-requires : goal.read-requires
read-requires c = (c.requires.0, rw (delay-is c) (delay-below _ _ c.args.place.there.1 (omega arith)))

pub returns-in-Fract : goal.returns-in-Fract
returns-in-Fract c = rw (c.in-Fract.is, ← c.requires.0, ← delay-is (goal.at.returns-in-Fract c).After-delay_at) c.read.ensures
