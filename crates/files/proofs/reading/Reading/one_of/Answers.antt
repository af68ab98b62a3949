-- `files::reading::Reading::one_of` meets its contract: a number, judged as soon as it is read. Assumes nothing.
use Rattle.std.proofs.Common.{◌∙◌}
use Rattle.files.proofs.Following.{handed, judged_good, judged_bad, judged_stop, test_passed, test_failed}
use Rattle.files.proofs.reading.Reading.one_of.Goals as goal

pub returns-in_err-value-clause-said : goal.returns-in_err-value-clause-said
returns-in_err-value-clause-said c = handed _ _ _ c.from_residual.ensures.1 ∙ judged_stop _ _ _ _ _ _ _ c.in_err-value.ensures.said

pub returns-in_err-fault_unless-clause-said : goal.returns-in_err-fault_unless-clause-said
returns-in_err-fault_unless-clause-said c =
    let failed = test_failed _ _ _ _ c.in_err-fault_unless.ensures in
    handed _ _ _ c.from_residual-in_err-fault_unless.ensures.1 ∙ rw failed.1 (judged_bad _ _ _ _ _ _ _ c.in_ok-value.ensures.said failed.0)

pub returns-clause-said : goal.returns-clause-said
returns-clause-said c = judged_good _ _ _ _ _ _ _ c.in_ok-value.ensures.said (test_passed _ _ _ _ c.in_ok-fault_unless.ensures)
