-- `engine::check::check_stage` meets its contract: the first of 5, 8, 6, 7 that fails, or none. Assumes nothing.
use mathlib.Core.Path.{◌≡◌, ◌∙◌}
use Rattle.std.proofs.Common.{rules, Err}
use Rattle.answers.proofs.Tests.{holds, fails}
use Rattle.engine.proofs.Faults.{asks_lack, asks_have, level_lacks, then_others, first_fails, second_fails, third_fails, fourth_fails, none_fails}
use Rattle.engine.proofs.check.check_stage.Goals as goal

pub returns-then-not-there : goal.returns-then-not-there
returns-then-not-there c = first_fails _ _ _ _ _ (fails (rw (c.inputs-inputs.ensures, c.outputs-outputs.ensures) at c.there.ensures) c.if-not-there.true)

pub returns-then-not-differ : goal.returns-then-not-differ
returns-then-not-differ c =
    second_fails _ _ _ _ _ (holds (rw (c.inputs-inputs.ensures, c.outputs-outputs.ensures) at c.there.ensures) c.if-not-there.false)
    (fails (rw c.outputs-outputs.ensures at c.differ.ensures) c.if-not-differ.true)

pub returns-in_err-check_asks : goal.returns-in_err-check_asks
returns-in_err-check_asks c =
    let same : c.from_residual.result ≡ Err c.in_err-check_asks.field-0.0 = search rules in
    let lack = asks_lack _ (rw c.level_asks.ensures at c.in_err-check_asks.ensures) in
    same ∙ lack.1 ∙ third_fails _ _ _ _ _ (holds (rw (c.inputs-inputs.ensures, c.outputs-outputs.ensures) at c.there.ensures) c.if-not-there.false)
    (holds (rw c.outputs-outputs.ensures at c.differ.ensures) c.if-not-differ.false)
    (level_lacks _ c.args.records.now.window c.args.stage lack.0)

pub returns-in_err-check_asks-2 : goal.returns-in_err-check_asks-2
returns-in_err-check_asks-2 c =
    let same : c.from_residual-in_err-check_asks-2.result ≡ Err c.in_err-check_asks-2.field-0.0 = search rules in
    let lack = asks_lack _ (rw c.asks.ensures at c.in_err-check_asks-2.ensures) in
    same ∙ lack.1 ∙ third_fails _ _ _ _ _ (holds (rw (c.inputs-inputs.ensures, c.outputs-outputs.ensures) at c.there.ensures) c.if-not-there.false)
    (holds (rw c.outputs-outputs.ensures at c.differ.ensures) c.if-not-differ.false)
    (then_others _ c.args.records.now.window c.args.stage (asks_have _ (rw c.level_asks.ensures at c.in_ok-check_asks.ensures)) ∙ lack.0)

pub returns-then-not-clear_of : goal.returns-then-not-clear_of
returns-then-not-clear_of c =
    fourth_fails _ _ _ _ _ (holds (rw (c.inputs-inputs.ensures, c.outputs-outputs.ensures) at c.there.ensures) c.if-not-there.false)
    (holds (rw c.outputs-outputs.ensures at c.differ.ensures) c.if-not-differ.false)
    (then_others _ c.args.records.now.window c.args.stage (asks_have _ (rw c.level_asks.ensures at c.in_ok-check_asks.ensures))
    ∙ asks_have _ (rw c.asks.ensures at c.in_ok-check_asks-2.ensures))
    (fails (rw (c.inputs-inputs.ensures, c.outputs-outputs.ensures) at c.clear_of.ensures) c.if-not-clear_of.true)

pub returns : goal.returns
returns c =
    none_fails _ _ _ _ _ (holds (rw (c.inputs-inputs.ensures, c.outputs-outputs.ensures) at c.there.ensures) c.if-not-there.false)
    (holds (rw c.outputs-outputs.ensures at c.differ.ensures) c.if-not-differ.false)
    (then_others _ c.args.records.now.window c.args.stage (asks_have _ (rw c.level_asks.ensures at c.in_ok-check_asks.ensures))
    ∙ asks_have _ (rw c.asks.ensures at c.in_ok-check_asks-2.ensures))
    (holds (rw (c.inputs-inputs.ensures, c.outputs-outputs.ensures) at c.clear_of.ensures) c.if-not-clear_of.false)
