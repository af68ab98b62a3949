use mathlib.Core.Path.{◌∙◌}
use Rattle.stream.proofs.Gathered.{cleared_output}
use Rattle.stream.proofs.place.Place.next_case.Goals as goal

pub returns-then-left-eq0 : goal.returns-then-left-eq0
returns-then-left-eq0 c = c.end.ensures.0 ∙ c.ready.ensures.0 ∙ cleared_output _ _ _ c.clear.ensures

pub returns : goal.returns
returns c = c.next-sort.ensures.0 ∙ c.ready.ensures.0 ∙ cleared_output _ _ _ c.clear.ensures
