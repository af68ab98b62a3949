use Rattle.std.proofs.Common.{◌∙◌, sym, arith}
use Rattle.microwave.proofs.Asked.{none_found_at, one_found_at, none_left, lacks, has_all}
use Rattle.microwave.proofs.parameter.check_each.Goals as goal

pub returns-in_default : goal.returns-in_default
returns-in_default g c =
    lacks _ _ c.args.asks (sym c.loop-ask.invariant ∙ none_found_at _ _ c.args.asks c.loop-ask.ask-index _ (omega arith) c.lookup.ensures c.in_default.is)

pub loop-ask-preserved : goal.loop-ask-preserved
loop-ask-preserved g c =
    sym (one_found_at _ _ c.args.asks c.loop-ask.ask-index _ (omega arith) c.lookup.ensures c.in-Some.is) ∙ c.loop-ask.invariant

pub returns : goal.returns
returns g c = has_all _ _ c.args.asks (sym c.loop-ask.invariant ∙ none_left _ _ c.args.asks c.loop-ask.ask-index (omega arith))
