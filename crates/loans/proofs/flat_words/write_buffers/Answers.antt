use mathlib.Core.Path.{◌∙◌}
use Rattle.stream.proofs.Gathered.{writes_input}
use Rattle.loans.proofs.flat_words.write_buffers.Goals as goal

pub returns : goal.returns
returns c = c.write_if-3.ensures ∙ writes_input _ _ _ c.write.ensures ∙ c.write_if-2.ensures ∙ c.write_if.ensures
