-- `stream::place::Place::send` meets its contract: what `write_all` answers is whether the bytes were taken. Assumes nothing.
use mathlib.Core.Path.{◌≡◌}
use mathlib.Core.Logic.{◌⊎◌, inl, inr}
use mathlib.Core.Bool.{Bool, true, false, not}
use borrow.Author.Tests.{lt-ltb, le-ltb}
use Rattle.stream.specs.Place.{refused_if, filled_to, sent, Told}
use Rattle.stream.specs.declared.place.Place.{Place}
use Rattle.stream.proofs.place.Place.send.Goals as goal

pub returns-then-filled-gt-ROOM : goal.returns-then-filled-gt-ROOM
unfolding sent Told
returns-then-filled-gt-ROOM c = inl (simp (lt-ltb 65536 c.args.self.now.filled c.if-filled-gt-ROOM.true) c.refuse.ensures)

either : (failed : Bool) (p r : Place) → r ≡ refused_if failed p → (r ≡ refused_if (not true) p) ⊎ (r ≡ refused_if (not false) p)
either false p r e = inl e
either true p r e = inr e

pub returns : goal.returns
unfolding sent Told
returns c =
    let a = c.args in
    simp (le-ltb 65536 a.self.now.filled c.if-filled-gt-ROOM.false) (either c.is_err.result (filled_to 0 a.self.now) _ c.refuse_if.ensures)
