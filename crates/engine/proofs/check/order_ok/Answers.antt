use mathlib.Core.Path.{refl, sym, ◌∙◌}
use native.Mathlib.Nat.{mod-lt}
use native.Mathlib.Omega.{arith}
use lib.Bits.{or_lt}
use lib.ListN.{get_or}
use borrow.Author.Tests.{lt-leb, lt-ltb, le-ltb}
use Rattle.engine.specs.Run.{all_below, orderly}
use Rattle.engine.proofs.Lists.{rest, last, later_is, not_there, twice, in_order}
use Rattle.engine.proofs.Seen.{again, none_seen, none_left, was_seen, taken_in, comes_later, passes}
use Rattle.engine.proofs.check.order_ok.Goals as goal
use Rattle.engine.proofs.check.order_ok.Goals.{then-k-lt32+else-met-ne0, else-k-lt32+else-stands_in}

pub returns-then-order-gt32 : goal.returns-then-order-gt32
unfolding orderly
returns-then-order-gt32 c = rw (lt-leb _ _ c.if-order-gt32.true)

pub loop-j-init : goal.loop-j-init
loop-j-init c = (refl, none_seen _, omega arith)

pub returns-then-count-k : goal.returns-then-count-k
returns-then-count-k c = not_there _ _ (rw (le-ltb _ _ c.if-count-k.true) at (rest (all_below c.args.count) _ _ c.loop-j.invariant.0 c.loop-j-test.true))

pub returns-then-met-ne0 : goal.returns-then-met-ne0
returns-then-met-ne0 c =
    twice _ _ (was_seen _ _ _ c.if-k-lt32.true c.if-met-ne0.true ∙ rest (again c.loop-j.seen) _ _ c.loop-j.invariant.1 c.loop-j-test.true)

pub returns-then-stands_in : goal.returns-then-stands_in
returns-then-stands_in c =
    twice _ _ (comes_later _ _ _ (sym c.if-stands_in.true ∙ later_is (get_or c.args.order.now c.loop-j.j 0) c.args.order.now c.loop-j.j c.stands_in.ensures) ∙ rest (again c.loop-j.seen) _ _ c.loop-j.invariant.1 c.loop-j-test.true)

pub loop-j-preserved : goal.loop-j-preserved
loop-j-preserved c =
    let below = rw (lt-ltb _ _ c.if-count-k.false) at (rest (all_below c.args.count) _ _ c.loop-j.invariant.0 c.loop-j-test.true) in
    let met = rest (again c.loop-j.seen) _ _ c.loop-j.invariant.1 c.loop-j-test.true in
    elim c.if-k-lt32.branch [
      | then-k-lt32+else-met-ne0 w ↦ rw w.seen-is (below, taken_in _ _ _ w.if-k-lt32.true w.if-met-ne0.false ∙ met, or_lt 32 _ _ c.loop-j.invariant.2 (mod-lt _ (omega arith)))
      | else-k-lt32+else-stands_in w ↦ rw w.seen-is (below, passes _ _ _ c.loop-j.invariant.2 w.if-k-lt32.false (sym w.if-stands_in.false ∙ later_is (get_or c.args.order.now c.loop-j.j 0) c.args.order.now c.loop-j.j w.stands_in.ensures) ∙ met, c.loop-j.invariant.2)
    ]

pub returns : goal.returns
returns c =
    in_order _ _ c.if-order-gt32.false (last (all_below c.args.count) _ _ c.loop-j.invariant.0 c.loop-j-test.false) (sym (none_left _) ∙ last (again c.loop-j.seen) _ _ c.loop-j.invariant.1 c.loop-j-test.false)
