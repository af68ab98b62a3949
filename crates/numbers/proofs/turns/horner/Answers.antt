-- `numbers::turns::horner` meets its contract. The chain is a fold from the highest coefficient, over the lower ones from the last on.
-- Assumes nothing.
use Rattle.std.proofs.Common.{◌≡◌, [], ◌∷◌, ◌++◌, reverse, ◌∙◌, rules}
use Rattle.std.specs.List.{fold}
use Rattle.numbers.specs.Turns.{horner_of}
use Rattle.numbers.proofs.turns.Sums.{inward, horner_inward}
use Rattle.numbers.proofs.turns.horner.Goals as goal

pub returns-in_default : goal.returns-in_default
unfolding horner_of
returns-in_default c = search rules

pub returns : goal.returns
returns c =
    let highest = c.in-Some.highest.now in
    let lower = c.in-Some.lower.now in
    let folded : c.fold.result ≡ fold (inward c.args.u) highest (reverse lower) = search rules in
    let parts : c.args.coefficients.now ≡ lower ++ (highest ∷ []) = search rules in
    rw parts (folded ∙ horner_inward lower highest c.args.u)
