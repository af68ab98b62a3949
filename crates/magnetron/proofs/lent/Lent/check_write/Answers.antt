-- `magnetron::lent::Lent::check_write` meets its contract: a refusal by the checks of what is lent stands. Assumes nothing.
use mathlib.Core.Path.{◌≡◌, sym, ◌∙◌}
use Rattle.std.proofs.Common.{rules, Err}
use Rattle.answers.proofs.Verdicts.{stopped}
use Rattle.magnetron.specs.Single.{write_fault}
use Rattle.magnetron.proofs.lent.Lent.check_write.Goals as goal

pub returns-in_err-check_prepare : goal.returns-in_err-check_prepare
unfolding write_fault
returns-in_err-check_prepare c =
    let same : c.from_residual.result ≡ Err c.in_err-check_prepare.field-0.0 = search rules in
    same ∙ sym (stopped _ _ _ (sym c.in_err-check_prepare.ensures))
