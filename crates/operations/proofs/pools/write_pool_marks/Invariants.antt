-- `operations::pools::write_pool_marks` meets its contract. The loop's invariant: where what is left is written from here on, all is written.
-- Assumes nothing.
use mathlib.Core.List.{map}
use lib.ListN.{drop}
use Rattle.stream.specs.Place.{flag_word, Writes}
use Rattle.stream.specs.declared.place.Place.{Place}
use Rattle.operations.proofs.pools.write_pool_marks.Given as goal

abbrev pub invariant-loop-mark : goal.invariant-loop-mark
invariant-loop-mark l = (b : Place) → Writes (drop l.mark-index (map flag_word l.stale)) l.place b → Writes (map flag_word l.stale) l.initial.place b
