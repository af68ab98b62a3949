-- Words that are written one after the other.
--     written                    one word, of what clearing and putting did
--     writes-append              two rows of words
--     words_one, words_done      a turn of a loop that writes a list, and its end
--     samples_one, samples_done  the same of samples
-- Assumes nothing.
use mathlib.Core.Path.{◌≡◌, refl}
use mathlib.Core.Logic.{inl, inr, ⊎_elim}
use mathlib.Core.Bool.{Bool, true, false}
use mathlib.Core.List.{List, [], ◌∷◌, ◌++◌, map}
use Prim.Native.Nat.{ℕ, ◌+◌, ◌<◌, ◌≤◌}
use native.Mathlib.Numerals.{add-one}
use lib.Ieee.{Float, nan}
use lib.ListN.{length, get_or, drop, drop_of_length-le}
use lib.Seq.{drop-cons}
use Rattle.std.proofs.lemmas.List.{get_or-map, length-map}
use Rattle.std.specs.Prelude.{Option}
use Rattle.words.specs.Number.{to_word}
use Rattle.words.specs.Writer.{put_of, if_stored}
use Rattle.stream.specs.Place.{refused_at, filled_to, holding, cleared_by, wrote, Told, Writes}
use Rattle.stream.specs.declared.place.Place.{Place}

-- what a call of `write` leaves, of what it learns from `clear` and `put`
module _ (p q : Place) (after : List ℕ) (w : ℕ) (stored : Option ℕ) where
  abbrev pub left : Place
  left = if_stored stored (λ next. filled_to next (holding after q)) (refused_at (holding after q))

  by_wrote : (taken : Bool) → (stored, after) ≡ put_of q.output q.filled w → q ≡ cleared_by taken 0 p → wrote taken w p ≡ left
  unfolding wrote
  by_wrote taken put e = rw (← e, ← put)

  pub written : Told (λ taken. cleared_by taken 0 p) q → (stored, after) ≡ put_of q.output q.filled w → Writes (w ∷ []) p left
  unfolding Told Writes
  written told put = ⊎_elim (λ e. inl (by_wrote true put e)) (λ e. inr (by_wrote false put e)) told

pub writes-append : (ws vs : List ℕ) (a b c : Place) → Writes ws a b → Writes vs b c → Writes (ws ++ vs) a c
unfolding Writes
writes-append [] vs a b c h k = rw h k
writes-append (w ∷ ws) vs a b c h k =
    ⊎_elim (λ l. inl (writes-append ws vs (wrote true w a) b c l k)) (λ l. inr (writes-append ws vs (wrote false w a) b c l k)) h

-- one more of a list is written, of which what follows is still to be
pub words_one : (ws : List ℕ) (k : ℕ) (a b c : Place) → k < length ws
    → Writes (get_or ws k 0 ∷ []) a b → Writes (drop (k + 1) ws) b c → Writes (drop k ws) a c
words_one ws k a b c h one more = rw (drop-cons ws k 0 h, ← add-one) (writes-append (get_or ws k 0 ∷ []) (drop (k + 1) ws) a b c one more)

-- nothing is left to be written
pub words_done : (ws : List ℕ) (k : ℕ) (a : Place) → length ws ≤ k → Writes (drop k ws) a a
unfolding Writes
words_done ws k a h = rw (drop_of_length-le ws h) refl

module _ (samples : List Float) (k : ℕ) where
  pub samples_one : (a b c : Place) → k < length samples → Writes (to_word (get_or samples k nan) ∷ []) a b
      → Writes (drop (k + 1) (map to_word samples)) b c → Writes (drop k (map to_word samples)) a c
  samples_one a b c h one more =
      words_one (map to_word samples) k a b c (rw length-map h) (rw (get_or-map to_word samples k nan 0 h) one) more

  pub samples_done : (a : Place) → length samples ≤ k → Writes (drop k (map to_word samples)) a a
  samples_done a h = words_done (map to_word samples) k a (rw length-map h)
