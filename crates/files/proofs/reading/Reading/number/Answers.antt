use Rattle.std.proofs.Common.{◌∙◌, sym, refl, arith}
use Rattle.files.proofs.reading.Byte.{no_byte, a_byte}
use Rattle.files.proofs.reading.Groups.{grouping_start, grouping_more, number_early, number_longer, number-end, group_fits, weight_fits}
use Rattle.files.proofs.Following.{handed, test_passed, test_failed}
use Rattle.files.proofs.reading.Reading.number.Goals as goal

pub loop-init : goal.loop-init
loop-init c = (grouping_start _ _, refl)

pub returns-in_default-clause-said : goal.returns-in_default-clause-said
returns-in_default-clause-said c =
    let past = no_byte _ _ _ c.in_default.ensures c.get.ensures.lookup.0 in
    rw (c.at.ensures, ← c.loop.invariant.1) (sym (number_early _ _ _ _ _ _ c.loop.invariant.0 c.loop-test.true past))

pub overflow_mul-value : goal.overflow_mul-value
overflow_mul-value c = rw c.from.ensures (omega (arith, group_fits _ c.in-Some.byte _ c.loop-test.true c.loop.invariant.0.scaled))

pub overflow_add-value : goal.overflow_add-value
overflow_add-value c =
    rw c.from.ensures (omega (arith, group_fits _ c.in-Some.byte _ c.loop-test.true c.loop.invariant.0.scaled, weight_fits _ _ c.loop-test.true c.loop.invariant.0.scaled, c.loop.invariant.0.small))

pub returns-in_err-fault_unless-clause-said : goal.returns-in_err-fault_unless-clause-said
returns-in_err-fault_unless-clause-said c =
    let failed = test_failed _ _ _ _ c.in_err-fault_unless.ensures in
    let here = a_byte _ _ _ _ c.in-Some.ensures c.get.ensures.lookup.0 (c.get.ensures.lookup.4 (omega arith)) in
    handed _ _ _ c.from_residual.ensures.1
    ∙ rw (failed.1, ← c.loop.invariant.1, number-end _ _ _ _ _ _ c.loop.invariant.0 _ c.loop-test.true here.0 here.1 c.if-byte-lt128.true, ← c.from.ensures, failed.0) refl

pub returns-then-byte-lt128-clause-said : goal.returns-then-byte-lt128-clause-said
returns-then-byte-lt128-clause-said c =
    let passed = test_passed _ _ _ _ c.in_ok-fault_unless.ensures in
    let here = a_byte _ _ _ _ c.in-Some.ensures c.get.ensures.lookup.0 (c.get.ensures.lookup.4 (omega arith)) in
    rw (← c.loop.invariant.1, number-end _ _ _ _ _ _ c.loop.invariant.0 _ c.loop-test.true here.0 here.1 c.if-byte-lt128.true, ← c.from.ensures, passed) refl

pub overflow_mul-weight : goal.overflow_mul-weight
overflow_mul-weight c = omega (arith, weight_fits _ _ c.loop-test.true c.loop.invariant.0.scaled)

pub loop-preserved : goal.loop-preserved
loop-preserved c =
    let here = a_byte _ _ _ _ c.in-Some.ensures c.get.ensures.lookup.0 (c.get.ensures.lookup.4 (omega arith)) in
    (rw c.from.ensures (grouping_more _ _ _ _ _ _ c.loop.invariant.0 _ c.loop-test.true here.0 here.1 c.if-byte-lt128.false), c.loop.invariant.1)

pub returns-clause-said : goal.returns-clause-said
returns-clause-said c = rw (c.at-2.ensures, ← c.loop.invariant.1) (sym (number_longer _ _ _ _ _ _ c.loop.invariant.0 c.loop-test.false))
