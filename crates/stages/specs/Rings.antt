-- The stages of a patch by number, and their rings: "Rings lie end to end in stage-number order in one lent slice." Definitions only. Assumes nothing.
use Rattle.std.specs.Prelude.{ℕ, zero, suc, ◌+◌, Bool, true, ◌&&◌, List, nat_le, slice_index_or}
use Rattle.std.specs.Float.{nan}
use Rattle.magnetron.specs.declared.buffer.BufferIndex.TheVariants.{External}
use Rattle.microwave.specs.declared.parameter.Parameter.TheVariants.{Fixed}
use Rattle.stages.specs.declared.kind.Kind.TheVariants.{Pass}
use Rattle.stages.specs.declared.stage.Stage.{Stage}
use Rattle.stages.specs.declared.patch.Patch.{Patch}
use Rattle.stages.specs.declared.state.State.{State}
use Rattle.stages.specs.Stage.{ring_len, ring_fine}

-- what stands past the end of a list of stages or states; no check lets a run get there
abbrev pub no_stage : Stage
no_stage = record { kind = Pass (External 0); output = External 0; out_level = Fixed nan }

abbrev pub no_state : State
no_state = record {
  oscillator = record { phase = nan; saved = nan };
  one_pole = record { low = nan; high = nan; last_input = nan };
  biquad = record { y1 = nan; y2 = nan; x1 = nan; x2 = nan };
  waveguide = record { low_pass = nan; position = 0 };
}

abbrev pub stage_in : Patch → ℕ → Stage
stage_in patch k = slice_index_or patch.stages k no_stage

-- ---- where each ring lies

-- the sum of the first n
unfoldable pub sum_to : ℕ → (ℕ → ℕ) → ℕ
sum_to zero f = 0
sum_to (suc n) f = sum_to n f + f n

abbrev pub len_in : Patch → ℕ → ℕ
len_in patch k = ring_len (stage_in patch k).kind

-- where the ring of stage k begins
abbrev pub ring_at : Patch → ℕ → ℕ
ring_at patch k = sum_to k (len_in patch)

-- ---- check 4

-- not 4, "a buffer_size is over its bound, the ring slice is shorter than all rings, or a stored position isn't below its ring length".
-- "4 looks at all waveguides of the patch, ordered or not."
unfoldable pub all_to : ℕ → (ℕ → Bool) → Bool
all_to zero f = true
all_to (suc n) f = all_to n f && f n

abbrev pub fine_in : Patch → List State → ℕ → Bool
fine_in patch states k = ring_fine (stage_in patch k).kind (slice_index_or states k no_state)

unfoldable pub rings_ok : Patch → List State → ℕ → Bool
rings_ok patch states room = all_to patch.count (fine_in patch states) && nat_le (ring_at patch patch.count) room
