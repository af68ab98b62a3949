-- `engine::check::stands_in` meets its contract: the library's search, with the number on the other side of each comparison. Assumes nothing.
use mathlib.Core.Path.{◌∙◌}
use Rattle.engine.proofs.Lists.{any_is}
use Rattle.engine.proofs.check.stands_in.Goals as goal

pub returns : goal.returns
returns c = c.contains.ensures.value ∙ any_is c.args.k c.args.rest.now
