-- Buffers, as document 01 has them: two pools of samples with stale marks, what is read of a buffer, and what a write leaves.
-- A pool's samples are a flat list, as the lent slice is: buffer k begins at k * capacity.
-- Assumes nothing.
use Rattle.std.specs.Prelude.{Bool, true, false, not, cond, ◌&&◌, ◌||◌, ℕ, ◌*◌, ◌/◌, ◌%◌, eqb, get_or, set, take, drop, replicate, Float}
use mathlib.Core.List.{List, [], ◌∷◌, zip_with}
use Rattle.std.proofs.lemmas.List.Edits.{sets}
use Rattle.std.specs.Float.{binary64}
use Rattle.std.specs.Float.Ieee.{add}
use Rattle.numbers.specs.Constants.{zero64}
use Rattle.answers.specs.Activity.{greater_of}
use Rattle.answers.specs.declared.activity.StageActivity.{StageActivity}
use Rattle.answers.specs.declared.activity.StageActivity.TheVariants as activity
use Rattle.magnetron.specs.declared.buffer.Marks.{Marks}
use Rattle.magnetron.specs.declared.buffer.BufferIndex.{BufferIndex}
use Rattle.magnetron.specs.declared.buffer.BufferIndex.TheVariants.{External, Internal}
use Rattle.magnetron.specs.declared.inputs.Inputs.{Inputs}
use Rattle.magnetron.specs.declared.inputs.Inputs.TheVariants.{Nothing, One, Two}
use Rattle.magnetron.specs.declared.outputs.Outputs.{Outputs}
use Rattle.magnetron.specs.declared.outputs.Outputs.TheVariants as outputs

-- ---- a buffer is a place in one of two pools

abbrev pub index_of : BufferIndex → ℕ
index_of (External k) = k
index_of (Internal k) = k

-- the buffer of a number: twice its index, plus one if external
abbrev pub buffer_of : ℕ → BufferIndex
buffer_of number = cond (eqb (number % 2) 0) (Internal (number / 2)) (External (number / 2))

-- of what the internal pool has and what the external one has, that of the buffer's own pool
abbrev pub pick : {A : Type 0} → BufferIndex → A → A → A
pick (External k) internal external = external
pick (Internal k) internal external = internal

abbrev pub same_pool : BufferIndex → BufferIndex → Bool
same_pool b c = pick b (pick c true false) (pick c false true)

abbrev pub same_buffer : BufferIndex → BufferIndex → Bool
same_buffer b c = same_pool b c && eqb (index_of b) (index_of c)

-- "Activity is that of the output's kind"
abbrev pub activity_of : BufferIndex → StageActivity
activity_of b = pick b activity.Internal activity.External

-- an activity, or that of an output where it is greater
abbrev pub louder_by : BufferIndex → StageActivity → StageActivity
louder_by b a = greater_of a (activity_of b)

-- ---- samples and marks

-- the first `window` samples of each buffer are in play; the two pools have a capacity each
pub record Shape : Type 0 where
  pub window : ℕ
  pub internal : ℕ
  pub external : ℕ

pub record Bank : Type 0 where
  pub samples : List Float
  pub stale : List Bool

pub record Banks : Type 0 where
  pub internal : Bank
  pub external : Bank

-- what a buffer holds: its mark, and its first n samples
pub record Line : Type 0 where
  pub stale : Bool
  pub samples : List Float

unfoldable pub line_of : ℕ → ℕ → ℕ → Bank → Line
line_of capacity n k p = record { stale = get_or p.stale k false; samples = take n (drop (k * capacity) p.samples) }

unfoldable pub with_line : ℕ → ℕ → ℕ → Line → Bank → Bank
with_line capacity n k l p = record { samples = sets p.samples (k * capacity) (take n l.samples); stale = set p.stale k l.stale }

-- the same by `BufferIndex`
abbrev pub capacity_at : Shape → BufferIndex → ℕ
capacity_at h b = pick b h.internal h.external

abbrev pub bank_at : BufferIndex → Banks → Bank
bank_at b p = pick b p.internal p.external

abbrev pub with_bank_at : BufferIndex → Bank → Banks → Banks
with_bank_at b q p = record { internal = pick b q p.internal; external = pick b p.external q }

unfoldable pub line_at : Shape → BufferIndex → Banks → Line
line_at h b p = line_of (capacity_at h b) h.window (index_of b) (bank_at b p)

unfoldable pub with_line_at : Shape → BufferIndex → Line → Banks → Banks
with_line_at h b l p = with_bank_at b (with_line (capacity_at h b) h.window (index_of b) l (bank_at b p)) p

-- "Reading gives the first n samples of a buffer, or n zeros where it is stale"
unfoldable pub heard : ℕ → Line → List Float
heard n l = cond l.stale (replicate n zero64) l.samples

-- "Writing stores on a stale buffer, bits unchanged, and adds (old plus new) on any other; then the mark is cleared"
unfoldable pub laid : Line → List Float → Line
laid l vs = record { stale = false; samples = cond l.stale vs (zip_with (add binary64) l.samples vs) }

pub record Write : Type 0 where
  pub to : BufferIndex
  pub values : List Float

-- "Samples from n on, and other buffers, stay."
unfoldable pub write : Shape → Write → Banks → Banks
write h w p = with_line_at h w.to (laid (line_at h w.to p) w.values) p

-- each output with what is written to it
abbrev pub pairs : List BufferIndex → List (List Float) → List Write
pairs [] vs = []
pairs (b ∷ bs) [] = record { to = b; values = [] } ∷ pairs bs []
pairs (b ∷ bs) (v ∷ vs) = record { to = b; values = v } ∷ pairs bs vs

-- ---- marks by themselves

abbrev pub marks_of : Banks → Marks
marks_of p = record { internal = p.internal.stale; external = p.external.stale }

abbrev pub marks_at : BufferIndex → Marks → List Bool
marks_at b m = pick b m.internal m.external

unfoldable pub stale_at : BufferIndex → Marks → Bool
stale_at b m = get_or (marks_at b m) (index_of b) false

unfoldable pub cleared : BufferIndex → Marks → Marks
cleared b m =
    let after : List Bool = set (marks_at b m) (index_of b) false in
    record { internal = pick b after m.internal; external = pick b m.external after }

-- ---- which buffers are named

-- the buffers that are read
abbrev pub list_of : Inputs → List BufferIndex
list_of Nothing = []
list_of (One a) = a ∷ []
list_of (Two a b) = a ∷ b ∷ []

-- the buffers that are written, left before right
abbrev pub written_by : Outputs → List BufferIndex
written_by (outputs.One output) = output ∷ []
written_by (outputs.Two left right) = left ∷ right ∷ []

abbrev pub hits : BufferIndex → List BufferIndex → Bool
hits b [] = false
hits b (c ∷ cs) = same_buffer b c || hits b cs

abbrev pub meets : List BufferIndex → List BufferIndex → Bool
meets [] cs = false
meets (b ∷ bs) cs = hits b cs || meets bs cs

-- an output that is also an input, and is not stale
abbrev pub clash : List BufferIndex → List BufferIndex → Marks → Bool
clash ins [] m = false
clash ins (o ∷ os) m = (hits o ins && not (stale_at o m)) || clash ins os m
