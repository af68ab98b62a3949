-- `magnetron::lent::Lent::read` meets its contract: past the check, `Reading` says where the buffer lies and that the part is what the definition shows.
-- Assumes nothing.
use mathlib.Core.Path.{sym, ◌∙◌}
use native.Mathlib.Nat.{add-sub_cancel_left}
use native.Mathlib.Omega.{arith}
use Rattle.std.proofs.lemmas.List.{length-take-le}
use Rattle.answers.proofs.Verdicts.{accepted, rejected}
use Rattle.magnetron.specs.Single.{read_of}
use Rattle.magnetron.proofs.lent.Reading.{enough, lies, stale_part, fresh_part}
use Rattle.magnetron.proofs.lent.Lent.read.Goals as goal

pub returns-in_default : goal.returns-in_default
unfolding read_of
returns-in_default c = rw (rejected _ _ (sym c.in_default.ensures))

pub slice_bounds-result-end-then-at : goal.slice_bounds-result-end-then-at
slice_bounds-result-end-then-at c = sym (length-take-le _ _ (enough _ _ (accepted _ (sym c.in-Ok.ensures))))

pub returns-then-at : goal.returns-then-at
returns-then-at c = stale_part _ _ (accepted _ (sym c.in-Ok.ensures)) (sym (rw c.marks.ensures at c.at.ensures) ∙ c.if-at.true)

pub base_of-base-requires : goal.base_of-base-requires
base_of-base-requires c =
    let r = lies _ _ (accepted _ (sym c.in-Ok.ensures)) in
    omega (arith, r.place, r.small)

pub overflow_add-result : goal.overflow_add-result
overflow_add-result c =
    let r = lies _ _ (accepted _ (sym c.in-Ok.ensures)) in
    omega (arith, r.place, r.small, c.base_of-base.ensures)

pub offset_bounds-pool_of-base : goal.offset_bounds-pool_of-base
offset_bounds-pool_of-base c =
    let r = lies _ _ (accepted _ (sym c.in-Ok.ensures)) in
    omega (arith, r.place, r.small, c.base_of-base.ensures)

pub slice_bounds-result-end-2 : goal.slice_bounds-result-end-2
slice_bounds-result-end-2 c = rw (c.pool_of.ensures, c.base_of-base.ensures) (lies _ _ (accepted _ (sym c.in-Ok.ensures))).place

pub returns : goal.returns
returns c =
    rw (add-sub_cancel_left, c.pool_of.ensures, c.base_of-base.ensures)
    (fresh_part _ _ (accepted _ (sym c.in-Ok.ensures)) (sym (rw c.marks.ensures at c.at.ensures) ∙ c.if-at.false))
