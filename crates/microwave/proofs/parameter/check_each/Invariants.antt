-- `microwave::parameter::check_each` meets its contract: what the asks that are left come to is what all of them do. Assumes nothing.
use Rattle.std.proofs.Common.{◌≡◌, drop}
use Rattle.microwave.specs.Parameter.{all_found}
use Rattle.microwave.proofs.parameter.check_each.Given as goal

abbrev pub invariant-loop-ask : goal.invariant-loop-ask
invariant-loop-ask g l = all_found (drop l.ask-index l.ask-items) l.values l.seconds ≡ all_found l.ask-items l.values l.seconds
