-- A turn of the loop that writes marks, and its end. Assumes nothing.
use mathlib.Core.Bool.{Bool, false}
use mathlib.Core.List.{List, [], ◌∷◌, map}
use Prim.Native.Nat.{ℕ, ◌+◌, ◌<◌, ◌≤◌}
use lib.ListN.{length, get_or, drop}
use Rattle.std.proofs.lemmas.List.{get_or-map, length-map}
use Rattle.stream.specs.Place.{flag_word, Writes}
use Rattle.stream.specs.declared.place.Place.{Place}
use Rattle.stream.proofs.Writes.{words_one, words_done}

module _ (stale : List Bool) (k : ℕ) where
  pub marks_one : (a b c : Place) → k < length stale → Writes (flag_word (get_or stale k false) ∷ []) a b
      → Writes (drop (k + 1) (map flag_word stale)) b c → Writes (drop k (map flag_word stale)) a c
  marks_one a b c h one more =
      words_one (map flag_word stale) k a b c (rw length-map h) (rw (get_or-map flag_word stale k false 0 h) one) more

  pub marks_done : (a : Place) → length stale ≤ k → Writes (drop k (map flag_word stale)) a a
  marks_done a h = words_done (map flag_word stale) k a (rw length-map h)
