-- The stale marks of both pools as words. Assumes nothing.
use Rattle.std.specs.Prelude.{List, ◌++◌, map, ℕ}
use Rattle.magnetron.specs.declared.buffer.Marks.{Marks}
use Rattle.stream.specs.Place.{flag_word}

-- those of the internal pool first
abbrev pub mark_words : Marks → List ℕ
mark_words m = map flag_word m.internal ++ map flag_word m.external
