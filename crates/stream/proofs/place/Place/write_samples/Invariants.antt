-- `stream::place::Place::write_samples` meets its contract. The loop's invariant: where what is left is written from here on, all is written.
-- Assumes nothing.
use mathlib.Core.List.{map}
use lib.ListN.{drop}
use Rattle.words.specs.Number.{to_word}
use Rattle.stream.specs.Place.{Writes}
use Rattle.stream.specs.declared.place.Place.{Place}
use Rattle.stream.proofs.place.Place.write_samples.Given as goal

abbrev pub invariant-loop-sample : goal.invariant-loop-sample
invariant-loop-sample l = (b : Place) → Writes (drop l.sample-index (map to_word l.samples)) l.self b → Writes (map to_word l.samples) l.initial.self b
