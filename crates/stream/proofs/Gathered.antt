-- What reading and writing leave of the other stream's buffer.
--     cleared_output     sending leaves the bytes of the answers
--     writes_input       writing leaves the bytes of the input
-- Assumes nothing.
use mathlib.Core.Path.{◌≡◌, refl, ◌∙◌}
use mathlib.Core.Logic.{⊎_elim}
use mathlib.Core.Bool.{Bool, true, false, not, ◌||◌, cond}
use mathlib.Core.List.{List, [], ◌∷◌}
use Prim.Native.Nat.{ℕ, ◌+◌, ◌-◌}
use lib.Dec.{ltb}
use Rattle.std.specs.Prelude.{Option, Some, None}
use Rattle.words.specs.Writer.{put_of, if_stored}
use Rattle.stream.specs.Place.{refused_at, filled_to, holding, sent, cleared_by, wrote, Told, Writes}
use Rattle.stream.specs.declared.place.Place.{Place}
use Rattle.stream.specs.declared.place.TheConstants.{ROOM}

-- clearing moves neither buffer's bytes
module _ (taken : Bool) (want : ℕ) (p : Place) where
  abbrev cleared_if : Bool → Bool → Place
  cleared_if full wrong = cond full (cond wrong (refused_at (filled_to 0 p)) (filled_to 0 p)) p

  both_kept : (full wrong : Bool) → ((cleared_if full wrong).output ≡ p.output) × ((cleared_if full wrong).input ≡ p.input)
  both_kept true true = (refl, refl)
  both_kept true false = (refl, refl)
  both_kept false wrong = (refl, refl)

  cleared_by_bytes : ((cleared_by taken want p).output ≡ p.output) × ((cleared_by taken want p).input ≡ p.input)
  unfolding cleared_by sent
  cleared_by_bytes = both_kept (ltb (p.unread.end - p.unread.at) want || ltb ROOM (p.filled + 8)) (ltb ROOM p.filled || not taken)

pub cleared_output : (want : ℕ) (p q : Place) → Told (λ taken. cleared_by taken want p) q → q.output ≡ p.output
unfolding Told
cleared_output want p q told =
    ⊎_elim (λ e. rw e ((cleared_by_bytes true want p).0)) (λ e. rw e ((cleared_by_bytes false want p).0)) told

wrote_input : (taken : Bool) (w : ℕ) (p : Place) → (wrote taken w p).input ≡ p.input
unfolding wrote
wrote_input taken w p = by (put_of q.output q.filled w).0 (put_of q.output q.filled w).1 ∙ (cleared_by_bytes taken 0 p).1
  where
    q : Place
    q = cleared_by taken 0 p

    by : (stored : Option ℕ) (bytes : List ℕ)
        → (if_stored stored (λ next. filled_to next (holding bytes q)) (refused_at (holding bytes q))).input ≡ q.input
    by (Some next) bytes = refl
    by None bytes = refl

pub writes_input : (ws : List ℕ) (a b : Place) → Writes ws a b → b.input ≡ a.input
unfolding Writes
writes_input [] a b h = rw h refl
writes_input (w ∷ ws) a b h =
    ⊎_elim (λ l. writes_input ws (wrote true w a) b l ∙ wrote_input true w a) (λ l. writes_input ws (wrote false w a) b l ∙ wrote_input false w a) h
