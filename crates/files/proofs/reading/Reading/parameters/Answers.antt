-- `files::reading::Reading::parameters` meets its contract: its parts, one read after the other. Assumes nothing.
use Rattle.std.proofs.Common.{◌∙◌, refl}
use Rattle.files.specs.File.{parameters}
use Rattle.files.proofs.Following.{onward, stop, handed}
use Rattle.files.proofs.reading.Reading.parameters.Goals as goal

pub returns-in_err-parameter-clause-said : goal.returns-in_err-parameter-clause-said
unfolding parameters
returns-in_err-parameter-clause-said c =
    handed _ _ _ c.from_residual.ensures.1 ∙ stop _ _ _ _ _ c.in_err-parameter.ensures.said

pub returns-in_err-parameter_if-clause-said : goal.returns-in_err-parameter_if-clause-said
unfolding parameters
returns-in_err-parameter_if-clause-said c =
    onward _ _ _ _ _ _ _ _ c.in_ok-parameter.ensures.said c.in_ok-parameter.ensures.kept
    (handed _ _ _ c.from_residual-in_err-parameter_if.ensures.1 ∙ stop _ _ _ _ _ c.in_err-parameter_if.ensures.said)

pub returns-in_err-parameter_if-2-clause-said : goal.returns-in_err-parameter_if-2-clause-said
unfolding parameters
returns-in_err-parameter_if-2-clause-said c =
    onward _ _ _ _ _ _ _ _ c.in_ok-parameter.ensures.said c.in_ok-parameter.ensures.kept
    (onward _ _ _ _ _ _ _ _ c.in_ok-parameter_if.ensures.said c.in_ok-parameter_if.ensures.kept
    (handed _ _ _ c.from_residual-in_err-parameter_if-2.ensures.1 ∙ stop _ _ _ _ _ c.in_err-parameter_if-2.ensures.said))

pub returns-in_err-parameter_if-3-clause-said : goal.returns-in_err-parameter_if-3-clause-said
unfolding parameters
returns-in_err-parameter_if-3-clause-said c =
    onward _ _ _ _ _ _ _ _ c.in_ok-parameter.ensures.said c.in_ok-parameter.ensures.kept
    (onward _ _ _ _ _ _ _ _ c.in_ok-parameter_if.ensures.said c.in_ok-parameter_if.ensures.kept
    (onward _ _ _ _ _ _ _ _ c.in_ok-parameter_if-2.ensures.said c.in_ok-parameter_if-2.ensures.kept
    (handed _ _ _ c.from_residual-in_err-parameter_if-3.ensures.1 ∙ stop _ _ _ _ _ c.in_err-parameter_if-3.ensures.said)))

pub returns-clause-said : goal.returns-clause-said
unfolding parameters
returns-clause-said c =
    onward _ _ _ _ _ _ _ _ c.in_ok-parameter.ensures.said c.in_ok-parameter.ensures.kept
    (onward _ _ _ _ _ _ _ _ c.in_ok-parameter_if.ensures.said c.in_ok-parameter_if.ensures.kept
    (onward _ _ _ _ _ _ _ _ c.in_ok-parameter_if-2.ensures.said c.in_ok-parameter_if-2.ensures.kept
    (onward _ _ _ _ _ _ _ _ c.in_ok-parameter_if-3.ensures.said c.in_ok-parameter_if-3.ensures.kept
    refl)))
