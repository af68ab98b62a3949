-- `files::reading::Reading::parts` meets its contract: its parts, one read after the other. Assumes nothing.
use Rattle.std.proofs.Common.{◌∙◌, refl}
use Rattle.files.specs.File.{parts}
use Rattle.files.proofs.Following.{onward, stop, handed}
use Rattle.files.proofs.reading.Reading.parts.Goals as goal

pub returns-in_err-choices-clause-said : goal.returns-in_err-choices-clause-said
unfolding parts
returns-in_err-choices-clause-said c =
    handed _ _ _ c.from_residual.ensures.1 ∙ stop _ _ _ _ _ c.in_err-choices.ensures.said

pub returns-in_err-wires-clause-said : goal.returns-in_err-wires-clause-said
unfolding parts
returns-in_err-wires-clause-said c =
    onward _ _ _ _ _ _ _ _ c.in_ok-choices.ensures.said c.in_ok-choices.ensures.kept
    (handed _ _ _ c.from_residual-in_err-wires.ensures.1 ∙ stop _ _ _ _ _ c.in_err-wires.ensures.said)

pub returns-in_err-parameters-clause-said : goal.returns-in_err-parameters-clause-said
unfolding parts
returns-in_err-parameters-clause-said c =
    onward _ _ _ _ _ _ _ _ c.in_ok-choices.ensures.said c.in_ok-choices.ensures.kept
    (onward _ _ _ _ _ _ _ _ c.in_ok-wires.ensures.said c.in_ok-wires.ensures.kept
    (handed _ _ _ c.from_residual-in_err-parameters.ensures.1 ∙ stop _ _ _ _ _ c.in_err-parameters.ensures.said))

pub returns-clause-said : goal.returns-clause-said
unfolding parts
returns-clause-said c =
    onward _ _ _ _ _ _ _ _ c.in_ok-choices.ensures.said c.in_ok-choices.ensures.kept
    (onward _ _ _ _ _ _ _ _ c.in_ok-wires.ensures.said c.in_ok-wires.ensures.kept
    (onward _ _ _ _ _ _ _ _ c.in_ok-parameters.ensures.said c.in_ok-parameters.ensures.kept
    rw c.stage_from.ensures refl))
