use mathlib.Core.Path.{◌∙◌}
use Rattle.stream.proofs.Gathered.{writes_input}
use Rattle.loans.proofs.flat_words.write_parameter.Goals as goal

pub returns : goal.returns
returns c = c.write_if-2.ensures ∙ c.write_if.ensures ∙ writes_input _ _ _ c.write.ensures
