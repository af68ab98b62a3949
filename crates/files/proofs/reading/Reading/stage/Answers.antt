-- `files::reading::Reading::stage` meets its contract: a kind that there is, and what follows it; or the refusal of the kind. Assumes nothing.
use Rattle.std.proofs.Common.{◌∙◌}
use Rattle.files.specs.File.{stage}
use Rattle.files.specs.declared.fault.FaultReason.TheVariants.{Unknown}
use Rattle.files.proofs.Following.{onward, stop, handed, judged_good, judged_bad, judged_stop}
use Rattle.files.proofs.reading.Known.{known_kind, unknown_kind}
use Rattle.files.proofs.reading.Reading.stage.Goals as goal

pub returns-in_err-kind-clause-said : goal.returns-in_err-kind-clause-said
unfolding stage
returns-in_err-kind-clause-said c =
    handed _ _ _ c.from_residual.ensures.1 ∙ stop _ _ _ _ _ (judged_stop _ _ _ _ _ _ _ c.in_err-kind.ensures.said)

pub returns-in_default-clause-said : goal.returns-in_default-clause-said
unfolding stage
returns-in_default-clause-said c =
    rw c.at.ensures
    (stop _ _ _ _ (record { reason = Unknown; offset = _ }) (judged_bad _ _ _ _ _ _ _ c.in_ok-kind.ensures.said (unknown_kind _ _ c.form_of.ensures c.in_default.is)))

pub returns-clause-said : goal.returns-clause-said
unfolding stage
returns-clause-said c =
    let known = known_kind _ _ _ c.form_of.ensures c.in-Some.is in
    onward _ _ _ _ _ _ _ _ (judged_good _ _ _ _ _ _ _ c.in_ok-kind.ensures.said known.0) c.in_ok-kind.ensures.kept
    (rw (← known.1) c.parts.ensures.said)
