use mathlib.Core.Path.{◌∙◌}
use Rattle.stream.proofs.Gathered.{writes_input}
use Rattle.loans.proofs.flat_words.write_stage.Goals as goal

pub returns : goal.returns
returns c = c.write_parameters.ensures ∙ c.write_buffers.ensures ∙ c.write_choices.ensures ∙ writes_input _ _ _ c.write.ensures
