-- `stream::place::Place::clear` meets its contract, by what it tests. Assumes nothing.
use mathlib.Core.Path.{refl}
use mathlib.Core.Logic.{inl}
use mathlib.Core.Bool.{or-true}
use Prim.Native.Nat.{◌+◌, ◌-◌}
use native.Mathlib.Omega.{arith}
use borrow.Author.Tests.{lt-ltb, le-ltb}
use Rattle.stream.specs.Place.{cleared_by, Told}
use Rattle.stream.proofs.place.Place.clear.Goals as goal
use Rattle.stream.proofs.place.Place.clear.Goals.{then-left-want-via-then-left-want, then-left-want-via-else-left-want+then-self}

pub returns-then-left-want : goal.returns-then-left-want
unfolding cleared_by
returns-then-left-want c =
    let p = c.args.self.now in
    elim c.then-left-want.branch [
      | then-left-want-via-then-left-want w ↦ simp (lt-ltb (p.unread.end - p.unread.at) c.args.want (omega arith)) c.send.ensures
      | then-left-want-via-else-left-want+then-self w ↦ simp (lt-ltb 65536 (p.filled + 8) (omega arith), or-true) c.send.ensures
    ]

pub returns-else-self : goal.returns-else-self
unfolding cleared_by Told
returns-else-self c =
    let p = c.args.self.now in
    simp (le-ltb (p.unread.end - p.unread.at) c.args.want (omega arith), le-ltb 65536 (p.filled + 8) (omega arith)) (inl refl)
