-- `stream::place::Place::write_words` meets its contract. The loop's invariant: where what is left is written from here on, all is written.
-- Assumes nothing.
use lib.ListN.{drop}
use Rattle.stream.specs.Place.{Writes}
use Rattle.stream.specs.declared.place.Place.{Place}
use Rattle.stream.proofs.place.Place.write_words.Given as goal

abbrev pub invariant-loop-word : goal.invariant-loop-word
invariant-loop-word l = (b : Place) → Writes (drop l.word-index l.words) l.self b → Writes l.words l.initial.self b
