-- `files::reading::Reading::parameter` meets its contract: its parts, one read after the other. Assumes nothing.
use Rattle.std.proofs.Common.{◌∙◌, refl}
use Rattle.files.specs.File.{parameter}
use Rattle.files.proofs.Following.{onward, stop, handed}
use Rattle.files.proofs.reading.Reading.parameter.Goals as goal

pub returns-in_err-mark-clause-said : goal.returns-in_err-mark-clause-said
unfolding parameter
returns-in_err-mark-clause-said c =
    handed _ _ _ c.from_residual.ensures.1 ∙ stop _ _ _ _ _ c.in_err-mark.ensures.said

pub returns-in_err-bits-clause-said : goal.returns-in_err-bits-clause-said
unfolding parameter
returns-in_err-bits-clause-said c =
    onward _ _ _ _ _ _ _ _ c.in_ok-mark.ensures.said c.in_ok-mark.ensures.kept
    (handed _ _ _ c.from_residual-in_err-bits.ensures.1 ∙ stop _ _ _ _ _ c.in_err-bits.ensures.said)

pub returns-in_err-slot-clause-said : goal.returns-in_err-slot-clause-said
unfolding parameter
returns-in_err-slot-clause-said c =
    onward _ _ _ _ _ _ _ _ c.in_ok-mark.ensures.said c.in_ok-mark.ensures.kept
    (onward _ _ _ _ _ _ _ _ c.in_ok-bits.ensures.said c.in_ok-bits.ensures.kept
    (handed _ _ _ c.from_residual-in_err-slot.ensures.1 ∙ stop _ _ _ _ _ c.in_err-slot.ensures.said))

pub returns-clause-said : goal.returns-clause-said
unfolding parameter
returns-clause-said c =
    onward _ _ _ _ _ _ _ _ c.in_ok-mark.ensures.said c.in_ok-mark.ensures.kept
    (onward _ _ _ _ _ _ _ _ c.in_ok-bits.ensures.said c.in_ok-bits.ensures.kept
    (onward _ _ _ _ _ _ _ _ c.in_ok-slot.ensures.said c.in_ok-slot.ensures.kept
    refl))
