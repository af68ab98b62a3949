-- `files::reading::Reading::choices` meets its contract: its parts, one read after the other. Assumes nothing.
use Rattle.std.proofs.Common.{◌∙◌, refl}
use Rattle.files.specs.File.{choices}
use Rattle.files.proofs.Following.{onward, stop, handed}
use Rattle.files.proofs.reading.Reading.choices.Goals as goal

pub returns-in_err-choice-clause-said : goal.returns-in_err-choice-clause-said
unfolding choices
returns-in_err-choice-clause-said c =
    handed _ _ _ c.from_residual.ensures.1 ∙ stop _ _ _ _ _ c.in_err-choice.ensures.said

pub returns-in_err-choice-2-clause-said : goal.returns-in_err-choice-2-clause-said
unfolding choices
returns-in_err-choice-2-clause-said c =
    onward _ _ _ _ _ _ _ _ c.in_ok-choice.ensures.said c.in_ok-choice.ensures.kept
    (handed _ _ _ c.from_residual-in_err-choice-2.ensures.1 ∙ stop _ _ _ _ _ c.in_err-choice-2.ensures.said)

pub returns-in_err-number_if-clause-said : goal.returns-in_err-number_if-clause-said
unfolding choices
returns-in_err-number_if-clause-said c =
    onward _ _ _ _ _ _ _ _ c.in_ok-choice.ensures.said c.in_ok-choice.ensures.kept
    (onward _ _ _ _ _ _ _ _ c.in_ok-choice-2.ensures.said c.in_ok-choice-2.ensures.kept
    (handed _ _ _ c.from_residual-in_err-number_if.ensures.1 ∙ stop _ _ _ _ _ c.in_err-number_if.ensures.said))

pub returns-clause-said : goal.returns-clause-said
unfolding choices
returns-clause-said c =
    onward _ _ _ _ _ _ _ _ c.in_ok-choice.ensures.said c.in_ok-choice.ensures.kept
    (onward _ _ _ _ _ _ _ _ c.in_ok-choice-2.ensures.said c.in_ok-choice-2.ensures.kept
    (onward _ _ _ _ _ _ _ _ c.in_ok-number_if.ensures.said c.in_ok-number_if.ensures.kept
    refl))
