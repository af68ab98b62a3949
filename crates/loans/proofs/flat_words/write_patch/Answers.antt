use mathlib.Core.Path.{◌∙◌}
use Rattle.stream.proofs.Gathered.{writes_input}
use Rattle.loans.proofs.flat_words.write_patch.Goals as goal

pub returns : goal.returns
returns c = c.loop-stage.invariant ∙ writes_input _ _ _ c.write.ensures
