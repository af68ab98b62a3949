-- `numbers::zeros::all_minus_zero` meets its contract. The chain asks of each difference in turn.
-- Assumes nothing.
use borrow.Author.Tests.{tests}
use Rattle.std.proofs.Common.{◌∙◌, rules}
use Rattle.std.proofs.lemmas.Iterator.{YieldsList-from_slice}
use Rattle.std.proofs.lemmas.Iterator.Search.{all_from_yields_List}
use Rattle.numbers.specs.Inside.{is_minus_zero}
use Rattle.numbers.proofs.zeros.Scan.{all_of_list}
use Rattle.numbers.proofs.zeros.all_minus_zero.Goals as goal

pub returns : goal.returns
returns c =
    all_from_yields_List is_minus_zero _ _ _ c.all.ensures.ran (YieldsList-from_slice c.args.differences (cc)) (λ x b q k. search (rules, tests)) ∙ all_of_list c.args.differences
