-- `operations::outcome::write_outcome` meets its contract: what is written is one word after the other. Assumes nothing.
use mathlib.Core.List.{[], ◌∷◌}
use Rattle.stream.proofs.Writes.{writes-append}
use Rattle.operations.proofs.outcome.write_outcome.Goals as goal

pub returns : goal.returns
returns g c =
    rw c.of-told.ensures at (writes-append (c.of-told.result.number ∷ []) (c.of-told.result.stage ∷ []) _ _ _ c.write.ensures c.write-2.ensures)
