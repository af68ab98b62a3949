-- Single operations, as document 01 has them: a new pool, prepare, a single read, and the three single writes. Each is what it answers and
-- leaves, for any input, in the words that a run is defined by. Assumes nothing.
use Rattle.std.specs.Prelude.{◌≡◌, Bool, true, cond, ℕ, eqb, length, replicate, Float, None, Ok, Err}
use Rattle.std.specs.Prelude as prelude
use mathlib.Core.List.{List, [], ◌∷◌, ◌++◌, map, zip_with}
use Rattle.std.proofs.Math.Option.{Option, none, some}
use Rattle.std.specs.Option.{unwrap_or}
use Rattle.std.specs.Float.{binary64}
use Rattle.std.specs.Float.Ieee.{mul}
use Rattle.numbers.specs.Constants.{zero64, one64}
use Rattle.numbers.specs.Outcome.{Outcome, outcome}
use Rattle.order.specs.Checks.{unless, first, passed}
use Rattle.answers.specs.Refusal.{verdict_of}
use Rattle.answers.specs.declared.refusal.Reason.{Reason}
use Rattle.answers.specs.declared.refusal.Reason.TheVariants.{Bounds, Window, Buffer, Clash}
use Rattle.magnetron.specs.Buffers.{Shape, Banks, line_at, heard, write, marks_of, activity_of, list_of}
use Rattle.magnetron.specs.Pools.{marks_in, remarked, shape_of, banks_of, fresh_pool, prepared_pools}
use Rattle.magnetron.specs.Checks.{pool_ok, shape_ok, window_ok, has_buffer, all_there, no_clash}
use Rattle.magnetron.specs.declared.buffer.BufferIndex.{BufferIndex}
use Rattle.magnetron.specs.declared.buffer.Marks.{Marks}
use Rattle.magnetron.specs.declared.pool.Pools.{Pools}
use Rattle.magnetron.specs.declared.prepare.Made.{Made}
use Rattle.magnetron.specs.declared.prepare.Prepared.{Prepared}
use Rattle.magnetron.specs.declared.lent.Lent as reading
use Rattle.magnetron.specs.declared.lent.LentMut as writing
use Rattle.magnetron.specs.declared.inputs.Inputs.{Inputs}
use Rattle.magnetron.specs.declared.inputs.Inputs.TheVariants.{Nothing, One, Two}
use Rattle.magnetron.specs.declared.write.Wrote.{Wrote}

-- ---- a new pool

-- "A new pool holds zeros, not stale." A refused one is empty, and the slice stays.
unfoldable pub new_pool_of : ℕ → ℕ → List Float → Outcome Made (List Float)
new_pool_of count capacity samples =
    cond (pool_ok count capacity (length samples))
    (outcome (record { verdict = verdict_of none; pool = fresh_pool count capacity }) (replicate (length samples) zero64))
    (outcome (record { verdict = verdict_of (some Bounds); pool = fresh_pool 0 0 }) samples)

-- ---- what every other operation is lent

pub record Lent : Type 0 where
  pub pools : Pools
  pub internal : List Float
  pub external : List Float
  pub zeros : List Float
  pub window : ℕ

abbrev pub lent : Pools → List Float → List Float → List Float → ℕ → Lent
lent pools internal external zeros n = record { pools = pools; internal = internal; external = external; zeros = zeros; window = n }

-- the same, of the records that the code is passed
abbrev pub what_is_lent : reading.Lent → Lent
what_is_lent l = lent l.pools l.internal.now l.external.now l.zeros.now l.window

abbrev pub what_is_lent_to_write : writing.LentMut → Lent
what_is_lent_to_write l = lent l.pools l.internal.now l.external.now l.zeros.now l.window

-- a loan for writing that is still of the same slices, with the same records: what may have changed are the samples
abbrev pub SameLoan : writing.LentMut → writing.LentMut → Type 0
SameLoan before after = (after.internal.ghost_name ≡ before.internal.ghost_name) × (after.external.ghost_name ≡ before.external.ghost_name)
    × (after.zeros ≡ before.zeros) × (after.pools ≡ before.pools) × (after.window ≡ before.window)

abbrev pub shape_in : Lent → Shape
shape_in l = shape_of l.pools l.window

abbrev pub banks_in : Lent → Banks
banks_in l = banks_of l.internal l.external (marks_in l.pools)

-- ---- prepare

abbrev pub lent_ok : Lent → Bool
lent_ok l = shape_ok l.pools (length l.internal) (length l.external) l.zeros

-- "Prepare gives 1, else 2"
unfoldable pub prepare_fault : Lent → Option Reason
prepare_fault l = first (unless (lent_ok l) Bounds) (unless (window_ok l.pools l.window) Window)

unfoldable pub prepared_of : Lent → Prepared
prepared_of l = record { verdict = verdict_of (prepare_fault l); pools = cond (passed (prepare_fault l)) (prepared_pools l.pools) l.pools }

-- ---- a single read

-- "a single read by 1, 2, 5"
unfoldable pub read_fault : Lent → BufferIndex → Option Reason
read_fault l b = first (prepare_fault l) (unless (has_buffer l.pools b) Buffer)

-- what is heard of the buffer; "a refused read hands back an empty part"
unfoldable pub read_of : Lent → BufferIndex → List Float
read_of l b = cond (passed (read_fault l b)) (heard l.window (line_at (shape_in l) b (banks_in l))) []

-- ---- a single write

-- it "puts into one buffer a lent slice of n values .., one buffer's samples, or the product of two buffers"
abbrev pub values_of : Shape → Inputs → List Float → Banks → List Float
values_of h Nothing values p = values
values_of h (One a) values p = heard h.window (line_at h a p)
values_of h (Two a b) values p = zip_with (mul binary64) (heard h.window (line_at h a p)) (heard h.window (line_at h b p))

-- "another length gives 2"
abbrev pub length_ok : Inputs → ℕ → ℕ → Bool
length_ok Nothing len n = eqb len n
length_ok (One a) len n = true
length_ok (Two a b) len n = true

-- "Each value is first multiplied by out_level, 1.0 if absent."
abbrev pub level_of : prelude.Option Float → Float
level_of level = unwrap_or level one64

abbrev pub levelled : Float → List Float → List Float
levelled level values = map (λ (x : Float). mul binary64 x level) values

-- "it is checked by 1, 2, 5, 7 in that order"
unfoldable pub write_fault : Lent → Inputs → List Float → BufferIndex → Option Reason
write_fault l inputs values output =
    first (prepare_fault l)
    (first (unless (length_ok inputs (length values) l.window) Window)
    (first (unless (all_there l.pools (list_of inputs ++ (output ∷ []))) Buffer)
    (unless (no_clash l.window (list_of inputs) (output ∷ []) (marks_in l.pools)) Clash)))

-- one write: the values, levelled, go over the output
abbrev pub put_into : Shape → Inputs → List Float → BufferIndex → Float → Banks → Banks
put_into h inputs values output level p = write h (record { to = output; values = levelled level (values_of h inputs values p) }) p

-- all that a write leaves: its answer with the pools' records, and both pools' samples
pub record AfterWrite : Type 0 where
  pub wrote : Wrote
  pub internal : List Float
  pub external : List Float

abbrev pub after_write : Wrote → List Float → List Float → AfterWrite
after_write w internal external = record { wrote = w; internal = internal; external = external }

-- it "answers its output's activity"
abbrev pub written_to : BufferIndex → Pools → Marks → Wrote
written_to output p m = record { answer = Ok (activity_of output); pools = remarked p m }

abbrev pub refused_by : Reason → Pools → Wrote
refused_by r p = record { answer = Err (record { reason = r; stage = None }); pools = p }

-- A refusal changes nothing.
abbrev pub left_by : Option Reason → Lent → BufferIndex → Banks → AfterWrite
left_by none l output after = after_write (written_to output l.pools (marks_of after)) after.internal.samples after.external.samples
left_by (some r) l output after = after_write (refused_by r l.pools) l.internal l.external

unfoldable pub write_of : Lent → Inputs → List Float → BufferIndex → prelude.Option Float → AfterWrite
write_of l inputs values output level =
    left_by (write_fault l inputs values output) l output (put_into (shape_in l) inputs values output (level_of level) (banks_in l))
