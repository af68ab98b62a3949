-- `engine::check::check_entry` meets its contract: the first of 1 to 4 that fails, or none. Assumes nothing.
use mathlib.Core.Path.{◌≡◌, ◌∙◌}
use Rattle.std.proofs.Common.{rules, Err}
use Rattle.answers.specs.Refusal.{verdict_of}
use Rattle.engine.proofs.Entries.{too_many, prepare_stops, order_stops, then_rings}
use Rattle.engine.proofs.check.check_entry.Goals as goal

pub returns-then-records-gt32 : goal.returns-then-records-gt32
unfolding verdict_of
returns-then-records-gt32 c = rw c.into.ensures (too_many _ _ _ _ c.if-records-gt32.true)

pub returns-in_err-check_prepare : goal.returns-in_err-check_prepare
returns-in_err-check_prepare c =
    let same : c.from_residual.result ≡ Err c.in_err-check_prepare.field-0.0 = search rules in
    same ∙ prepare_stops _ _ _ _ c.if-records-gt32.false c.in_err-check_prepare.ensures

pub returns-in_err-refusal_unless : goal.returns-in_err-refusal_unless
returns-in_err-refusal_unless c =
    let same : c.from_residual-in_err-refusal_unless.result ≡ Err c.in_err-refusal_unless.field-0.0 = search rules in
    same ∙ order_stops _ _ _ _ c.if-records-gt32.false c.in_ok-check_prepare.ensures (rw c.order_ok.ensures at c.in_err-refusal_unless.ensures)

pub returns : goal.returns
returns c =
    rw c.rings_ok.ensures at c.refusal_unless-2.ensures
    ∙ then_rings _ _ _ _ c.if-records-gt32.false c.in_ok-check_prepare.ensures (rw c.order_ok.ensures at c.in_ok-refusal_unless.ensures)
