-- `files::patch::read_patch` meets its contract: version, count, stages and the end, one after the other, each judged as soon as it is read.
-- Assumes nothing.
use Rattle.std.proofs.Common.{◌∙◌, Ok}
use Rattle.files.specs.File.{file}
use Rattle.files.specs.declared.fault.FaultReason.TheVariants.{OtherVersion, TooManyStages}
use Rattle.files.proofs.Following.{onward, stop, handed, judged_good, judged_bad, judged_stop, test_passed, test_failed}
use Rattle.files.proofs.patch.Ending.{numbers_told, staged, ending_left, ending_none}
use Rattle.files.proofs.patch.read_patch.Goals as goal

pub returns-in_err-version : goal.returns-in_err-version
unfolding file
returns-in_err-version c =
    numbers_told _ 0 _
    (handed _ _ _ c.from_residual.ensures.1 ∙ stop _ _ _ _ _ (judged_stop _ _ _ _ _ _ _ c.in_err-version.ensures.said))

pub returns-in_err-fault_unless : goal.returns-in_err-fault_unless
unfolding file
returns-in_err-fault_unless c =
    let failed = test_failed _ _ _ _ c.in_err-fault_unless.ensures in
    numbers_told _ 0 _
    (handed _ _ _ c.from_residual-in_err-fault_unless.ensures.1
    ∙ rw failed.1 (stop _ _ _ _ (record { reason = OtherVersion; offset = _ }) (judged_bad _ _ _ _ _ _ _ c.in_ok-version.ensures.said failed.0)))

pub returns-in_err-count : goal.returns-in_err-count
unfolding file
returns-in_err-count c =
    numbers_told _ 0 _
    (onward _ _ _ _ _ _ _ _ (judged_good _ _ _ _ _ _ _ c.in_ok-version.ensures.said (test_passed _ _ _ _ c.in_ok-fault_unless.ensures)) c.in_ok-version.ensures.kept
    (handed _ _ _ c.from_residual-in_err-count.ensures.1 ∙ stop _ _ _ _ _ (judged_stop _ _ _ _ _ _ _ c.in_err-count.ensures.said)))

pub returns-in_err-fault_unless-2 : goal.returns-in_err-fault_unless-2
unfolding file
returns-in_err-fault_unless-2 c =
    let failed = test_failed _ _ _ _ c.in_err-fault_unless-2.ensures in
    numbers_told _ 0 _
    (onward _ _ _ _ _ _ _ _ (judged_good _ _ _ _ _ _ _ c.in_ok-version.ensures.said (test_passed _ _ _ _ c.in_ok-fault_unless.ensures)) c.in_ok-version.ensures.kept
    (handed _ _ _ c.from_residual-in_err-fault_unless-2.ensures.1
    ∙ rw failed.1 (stop _ _ _ _ (record { reason = TooManyStages; offset = _ }) (judged_bad _ _ _ _ _ _ _ c.in_ok-count.ensures.said failed.0))))

pub returns-in_err-patch : goal.returns-in_err-patch
unfolding file
returns-in_err-patch c =
    numbers_told _ 0 _
    (onward _ _ _ _ _ _ _ _ (judged_good _ _ _ _ _ _ _ c.in_ok-version.ensures.said (test_passed _ _ _ _ c.in_ok-fault_unless.ensures)) c.in_ok-version.ensures.kept
    (onward _ _ _ _ _ _ _ _ (judged_good _ _ _ _ _ _ _ c.in_ok-count.ensures.said (test_passed _ _ _ _ c.in_ok-fault_unless-2.ensures)) c.in_ok-count.ensures.kept
    (staged _ _ _ _ (handed _ _ _ c.from_residual-in_err-patch.ensures.1 ∙ stop _ _ _ _ _ c.in_err-patch.ensures.said))))

pub returns-in_err-fault_unless-3 : goal.returns-in_err-fault_unless-3
unfolding file
returns-in_err-fault_unless-3 c =
    let failed = test_failed _ _ _ _ c.in_err-fault_unless-3.ensures in
    numbers_told _ 0 _
    (onward _ _ _ _ _ _ _ _ (judged_good _ _ _ _ _ _ _ c.in_ok-version.ensures.said (test_passed _ _ _ _ c.in_ok-fault_unless.ensures)) c.in_ok-version.ensures.kept
    (onward _ _ _ _ _ _ _ _ (judged_good _ _ _ _ _ _ _ c.in_ok-count.ensures.said (test_passed _ _ _ _ c.in_ok-fault_unless-2.ensures)) c.in_ok-count.ensures.kept
    (staged _ _ _ _ (onward _ _ _ _ _ _ _ _ c.in_ok-patch.ensures.said c.in_ok-patch.ensures.kept
    (handed _ _ _ c.from_residual-in_err-fault_unless-3.ensures.1 ∙ rw (failed.1, c.in_ok-patch.ensures.kept ∙ c.in_ok-count.ensures.kept ∙ c.in_ok-version.ensures.kept) (ending_left _ _ _ failed.0))))))

pub returns : goal.returns
unfolding file
returns c =
    numbers_told (Ok _) c.stages.new.self.offset _
    (onward _ _ _ _ _ _ _ _ (judged_good _ _ _ _ _ _ _ c.in_ok-version.ensures.said (test_passed _ _ _ _ c.in_ok-fault_unless.ensures)) c.in_ok-version.ensures.kept
    (onward _ _ _ _ _ _ _ _ (judged_good _ _ _ _ _ _ _ c.in_ok-count.ensures.said (test_passed _ _ _ _ c.in_ok-fault_unless-2.ensures)) c.in_ok-count.ensures.kept
    (staged _ _ _ _ (onward _ _ _ _ _ _ _ _ c.in_ok-patch.ensures.said c.in_ok-patch.ensures.kept
    (rw (c.in_ok-patch.ensures.kept ∙ c.in_ok-count.ensures.kept ∙ c.in_ok-version.ensures.kept) (ending_none _ _ _ (test_passed _ _ _ _ c.in_ok-fault_unless-3.ensures)))))))
