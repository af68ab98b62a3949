-- `magnetron::lent::Lent::prepare` meets its contract: the check's verdict tells whether it passed. Assumes nothing.
use mathlib.Core.Path.{sym}
use Rattle.answers.proofs.Verdicts.{accepted, rejected}
use Rattle.magnetron.specs.Single.{prepared_of}
use Rattle.magnetron.proofs.Told.{held}
use Rattle.magnetron.proofs.Faults.{prepare_told}
use Rattle.magnetron.proofs.lent.Lent.prepare.Goals as goal

pub returns-in-Err : goal.returns-in-Err
unfolding prepared_of
returns-in-Err c = rw (rejected _ _ (sym c.in-Err.ensures), c.in-Err.ensures)

pub all_stale-requires : goal.all_stale-requires
all_stale-requires c =
    let t = prepare_told _ (accepted _ (sym c.in_default.ensures)) in
    (held _ _ _ _ _ t.0 t.1).internal_bounds.few

pub returns : goal.returns
unfolding prepared_of
returns c = rw (accepted _ (sym c.in_default.ensures), c.in_default.ensures, c.all_stale.ensures)
