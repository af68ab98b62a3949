-- The delay line over the list of a ring's slots, and what each single operation on a ring leaves, for any input (01, "Delay line" and "What a run returns").
-- A ring's length, where no list is at hand, is its number of `slots`. Assumes nothing.
use Rattle.std.specs.Prelude.{ℕ, ◌+◌, ◌-◌, ◌%◌, Bool, cond, ◌&&◌, List, length, replicate, pos, nat_le, nat_lt, slice_index_or, slice_set, Result, Ok, Err, None, ⊤, Float}
use Rattle.std.specs.Float.{nan, binary64}
use Rattle.std.specs.Float.Ieee.{add, sub, mul, of_int}
use Rattle.numbers.specs.Constants.{zero64, one64}
use Rattle.numbers.specs.Small.{held_of}
use Rattle.numbers.specs.Ceil.{ceil_of, gap_of}
use Rattle.numbers.specs.Outcome.{Outcome, outcome}
use Rattle.answers.specs.declared.refusal.Reason.TheVariants.{Ring}
use Rattle.answers.specs.declared.refusal.Refusal.{Refusal}
use Rattle.util.specs.declared.reach.Reach.{Reach}
use Rattle.util.specs.declared.reach.Reach.TheVariants.{Within}
use Rattle.util.specs.declared.delay_line.Cursor.{Cursor}
use Rattle.util.specs.declared.answered.Answered.{Answered}
use Rattle.util.specs.declared.step.Step.{Step}
use Rattle.util.specs.declared.delay_line.Delay.{Delay}
use Rattle.util.specs.declared.delay_line.Read.{Read}
use Rattle.util.specs.declared.delay_line.Read.TheVariants.{Whole, Fract}
use Rattle.util.specs.Reach.{reach_of}
use Rattle.util.specs.Interaction.{step}

-- ---- the ring

-- "slots modulo length" (no slot is past the end, so the `nan` is never read)
abbrev pub slot : List Float → ℕ → Float
slot ring k = slice_index_or ring (k % length ring) nan

-- "Advance moves the position one slot round the ring."
abbrev pub next_slot : ℕ → ℕ → ℕ
next_slot slots position = (position + 1) % slots

-- a reading of a ring at a position
abbrev pub Reading : Type 0
Reading = List Float → ℕ → Float

-- "get_delayed reads position+1."
abbrev pub delayed : Reading
delayed ring position = slot ring (position + 1)

-- "For a fraction f: hold f in 0..1 (NaN to 0), offset = (length-1)*f"
abbrev pub offset_of : ℕ → Float → Float
offset_of slots f = mul binary64 (of_int binary64 (pos (slots - 1))) (held_of f zero64 one64)

-- "c = offset rounded up, i = c - offset"; 02: "and answer, besides the sample, whether it was below 0, above 1, not a number, or within"
unfoldable pub delay_of : ℕ → Float → Delay
delay_of slots f =
    let offset = offset_of slots f in
    record { whole = ceil_of offset; rest = gap_of (ceil_of offset) offset; reach = reach_of f }

-- "result (1-i)*slot(position+length-c) + i*slot(position+length-c+1)"
unfoldable pub delayed_by : Delay → Reading
delayed_by d ring position =
    let k = position + length ring - d.whole in
    add binary64 (mul binary64 (sub binary64 one64 d.rest) (slot ring k)) (mul binary64 d.rest (slot ring (k + 1)))

abbrev pub delayed_fract : Float → Reading
delayed_fract f ring position = delayed_by (delay_of (length ring) f) ring position

-- the reading that is asked for, and its answer besides the sample: the whole delay is within any ring
abbrev pub reading_of : Read → Reading
reading_of Whole = delayed
reading_of (Fract f) = delayed_fract f

abbrev pub reach_in : Read → Reach
reach_in Whole = Within
reach_in (Fract f) = reach_of f

-- ---- single operations

-- not "a length of 0 or above 32,768, or a position not below the length": a length of 0 has no position below it
unfoldable pub in_ring : ℕ → ℕ → Bool
in_ring position slots = nat_le slots 32768 && nat_lt position slots

-- "with 4 and stage 32"
abbrev pub ring_refusal : Refusal
ring_refusal = record { reason = Ring; stage = None }

abbrev pub refused : {T : Type 0} → Result T Refusal
refused = Err ring_refusal

abbrev pub done : Result ⊤ Refusal
done = Ok tt

-- what an operation answers that has a sample, done or refused: "a sample they would answer is then 0.0", and nothing is out of reach
abbrev pub answered : {S : Type 0} → Reach → Step S → Answered S
answered reach s = record { verdict = done; next = s.next; sample = s.sample; reach = reach }

abbrev pub unanswered : {S : Type 0} → Refusal → S → Answered S
unanswered refusal s = record { verdict = Err refusal; next = s; sample = zero64; reach = Within }

-- what a filter over a ring makes of a sample by a reading of the ring, and what it leaves there
abbrev pub Steps : Type 0 → Type 0
Steps S = Reading → S → List Float → Float → Outcome (Step S) (List Float)

-- one sample of a filter whose cursor that is. 02: "Comb and all-pass hand the answer on."
abbrev pub processed : {S : Type 0} → Steps S → Cursor → Read → S → List Float → Float → Outcome (Answered S) (List Float)
processed steps c read s ring x =
    let o = steps (reading_of read) s ring x in
    cond (in_ring c.position (length ring)) (outcome (answered (reach_in read) o.result) o.contents) (outcome (unanswered ring_refusal s) ring)

-- the delay of a ring of that length, and none where there is no such ring
unfoldable pub delay_at : ℕ → Float → Delay
delay_at slots f = cond (in_ring 0 slots) (delay_of slots f) (record { whole = 0; rest = zero64; reach = Within })

-- a refusal hands no cursor back: the one that was passed is a copy, and stays as it is
unfoldable pub advanced : Cursor → ℕ → Result Cursor Refusal
advanced c slots = cond (in_ring c.position slots) (Ok (record { position = next_slot slots c.position })) refused

-- "where the host lent it, in a thin second form": the answer, and the cursor as it stands then
abbrev pub left_there : Cursor → Result Cursor Refusal → Outcome (Result ⊤ Refusal) Cursor
left_there c (Ok moved) = outcome done moved
left_there c (Err refusal) = outcome (Err refusal) c

abbrev pub advanced_there : Cursor → ℕ → Outcome (Result ⊤ Refusal) Cursor
advanced_there c slots = left_there c (advanced c slots)

unfoldable pub tapped : Read → Cursor → List Float → Answered Cursor
tapped read c ring =
    cond (in_ring c.position (length ring))
    (answered (reach_in read) (step c (reading_of read ring c.position)))
    (unanswered ring_refusal c)

unfoldable pub slot_written : Cursor → List Float → Float → Outcome (Result ⊤ Refusal) (List Float)
slot_written c ring x =
    cond (in_ring c.position (length ring))
    (outcome done (slice_set ring c.position x))
    (outcome refused ring)

-- "mute as in util.rs": each slot is 0.0
unfoldable pub muted : Cursor → List Float → Outcome (Result ⊤ Refusal) (List Float)
muted c ring =
    cond (in_ring c.position (length ring))
    (outcome done (replicate (length ring) zero64))
    (outcome refused ring)
