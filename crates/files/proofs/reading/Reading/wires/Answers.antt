-- `files::reading::Reading::wires` meets its contract: its parts, one read after the other. Assumes nothing.
use Rattle.std.proofs.Common.{◌∙◌, refl}
use Rattle.files.specs.File.{wires}
use Rattle.files.proofs.Following.{onward, stop, handed}
use Rattle.files.proofs.reading.Reading.wires.Goals as goal

pub returns-in_err-number_if-clause-said : goal.returns-in_err-number_if-clause-said
unfolding wires
returns-in_err-number_if-clause-said c =
    handed _ _ _ c.from_residual.ensures.1 ∙ stop _ _ _ _ _ c.in_err-number_if.ensures.said

pub returns-in_err-number_if-2-clause-said : goal.returns-in_err-number_if-2-clause-said
unfolding wires
returns-in_err-number_if-2-clause-said c =
    onward _ _ _ _ _ _ _ _ c.in_ok-number_if.ensures.said c.in_ok-number_if.ensures.kept
    (handed _ _ _ c.from_residual-in_err-number_if-2.ensures.1 ∙ stop _ _ _ _ _ c.in_err-number_if-2.ensures.said)

pub returns-in_err-number-clause-said : goal.returns-in_err-number-clause-said
unfolding wires
returns-in_err-number-clause-said c =
    onward _ _ _ _ _ _ _ _ c.in_ok-number_if.ensures.said c.in_ok-number_if.ensures.kept
    (onward _ _ _ _ _ _ _ _ c.in_ok-number_if-2.ensures.said c.in_ok-number_if-2.ensures.kept
    (handed _ _ _ c.from_residual-in_err-number.ensures.1 ∙ stop _ _ _ _ _ c.in_err-number.ensures.said))

pub returns-in_err-number_if-3-clause-said : goal.returns-in_err-number_if-3-clause-said
unfolding wires
returns-in_err-number_if-3-clause-said c =
    onward _ _ _ _ _ _ _ _ c.in_ok-number_if.ensures.said c.in_ok-number_if.ensures.kept
    (onward _ _ _ _ _ _ _ _ c.in_ok-number_if-2.ensures.said c.in_ok-number_if-2.ensures.kept
    (onward _ _ _ _ _ _ _ _ c.in_ok-number.ensures.said c.in_ok-number.ensures.kept
    (handed _ _ _ c.from_residual-in_err-number_if-3.ensures.1 ∙ stop _ _ _ _ _ c.in_err-number_if-3.ensures.said)))

pub returns-clause-said : goal.returns-clause-said
unfolding wires
returns-clause-said c =
    onward _ _ _ _ _ _ _ _ c.in_ok-number_if.ensures.said c.in_ok-number_if.ensures.kept
    (onward _ _ _ _ _ _ _ _ c.in_ok-number_if-2.ensures.said c.in_ok-number_if-2.ensures.kept
    (onward _ _ _ _ _ _ _ _ c.in_ok-number.ensures.said c.in_ok-number.ensures.kept
    (onward _ _ _ _ _ _ _ _ c.in_ok-number_if-3.ensures.said c.in_ok-number_if-3.ensures.kept
    refl)))
