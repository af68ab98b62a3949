-- `util::reading::DelayReading::read` meets its contract: the second slot is the one after the first, which is the definition's at one place more. Assumes nothing.
use native.Mathlib.Nat.{mod-add-mod}
use Rattle.util.specs.DelayLine.{delayed_by}
use Rattle.util.proofs.reading.DelayReading.read.Goals as goal

pub returns : goal.returns
unfolding delayed_by
returns c = simp (c.after-second.ensures.0, c.before-first.ensures.0, c.before-first.ensures.1, c.requires.0, mod-add-mod)
