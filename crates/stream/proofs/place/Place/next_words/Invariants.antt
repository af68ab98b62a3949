-- `stream::place::Place::next_words` meets its contract: each word that is read leaves what is gathered. Assumes nothing.
use Rattle.stream.specs.Place.{Kept}
use Rattle.stream.proofs.place.Place.next_words.Given as goal

abbrev pub invariant-loop-word : goal.invariant-loop-word
invariant-loop-word g l = Kept l.initial.self l.self
