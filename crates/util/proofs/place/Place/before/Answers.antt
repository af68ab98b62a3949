-- `util::place::Place::before` meets its contract: the place is once round and back, or once round. Assumes nothing.
use Rattle.std.proofs.Common.{◌≡◌, ◌+◌, ◌-◌, ◌%◌, refl, mod-eq_of_lt, arith}
use Rattle.util.proofs.Ring.{once_round}
use Rattle.util.proofs.place.Place.before.Goals as goal
use Rattle.util.proofs.place.Place.before.Goals.{then-from-whole, else-from-whole}

pub returns : goal.returns
returns c =
    let s = c.args.self in
    let round : c.if-from-whole.from - c.args.whole ≡ (s.position + s.slots - c.args.whole) % s.slots =
    elim c.if-from-whole.branch [
      | then-from-whole w ↦ omega (arith, mod-eq_of_lt {n = s.position + s.slots - c.args.whole} {m = s.slots} (omega arith))
      | else-from-whole w ↦ omega (arith, once_round {k = s.position + s.slots - c.args.whole} {n = s.slots} (omega arith) (omega arith))
    ] in
    (round, refl)
