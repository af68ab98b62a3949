-- Which patch plain numbers name. Assumes nothing.
use Rattle.std.specs.Prelude.{ℕ, zero, suc, Bool, true, false, cond, Option, None, Some, Result, Ok, Err, leb, eqb, get_or, replicate}
use Rattle.magnetron.specs.Signals.{window}
use Rattle.magnetron.specs.declared.buffer.BufferIndex.TheVariants.{Internal}
use Rattle.microwave.specs.declared.parameter.Parameter.TheVariants.{Absent}
use Rattle.stages.specs.declared.kind.Kind.TheVariants.{Pass}
use Rattle.stages.specs.declared.stage.Stage.{Stage}
use Rattle.stages.specs.declared.patch.Patch.{Patch}
use Rattle.flat.specs.Stage.{named_of}
use Rattle.flat.specs.declared.stage.FlatParameter.{FlatParameter}
use Rattle.flat.specs.declared.stage.FlatStage.{FlatStage}
use Rattle.flat.specs.declared.patch.FlatPatch.{FlatPatch}
use Rattle.flat.specs.declared.patch.Unknown.{Unknown}

-- what stands where there is no stage
abbrev pub blank_stage : Stage
blank_stage = record { kind = Pass (Internal 0); output = Internal 0; out_level = Absent }

-- the stage that a name gives, or the blank one
unfoldable pub stage_or : Option Stage → Stage
stage_or (Some t) = t
stage_or None = blank_stage

unfoldable pub known : Option Stage → Bool
known (Some t) = true
known None = false

-- what stands where there are no numbers of a parameter or of a stage, as past the end of a list of stages: zeros
abbrev pub no_parameter : FlatParameter
no_parameter = record { mark = 0; slot = 0; bits = 0 }

abbrev pub no_flat : FlatStage
no_flat =
    record {
      kind = 0;
      choice = 0;
      modulation = 0;
      buffer_size = 0;
      first_input = 0;
      second_input = 0;
      output = 0;
      second_output = 0;
      out_level = no_parameter;
      first = no_parameter;
      second = no_parameter;
      third = no_parameter;
    }

-- what the numbers of stage k name
abbrev pub name_at : FlatPatch → ℕ → Option Stage
name_at f k = named_of (get_or f.stages k no_flat)

-- how many stages are looked at: none where the count is over its bound, which the run refuses
abbrev pub looked_at : ℕ → ℕ
looked_at count = cond (leb count 32) count 0

-- the first of n stages from k on whose numbers name none, or 32
unfoldable pub unknown_from : FlatPatch → ℕ → ℕ → ℕ
unknown_from f zero k = 32
unknown_from f (suc n) k = cond (known (name_at f k)) (unknown_from f n (suc k)) k

unfoldable pub unknown_of : FlatPatch → ℕ
unknown_of f = unknown_from f (looked_at f.count) 0

-- how many stages are named: all that are looked at, or those before the first whose numbers name none
abbrev pub named_count : FlatPatch → ℕ
named_count f = cond (eqb (unknown_of f) 32) (looked_at f.count) (unknown_of f)

-- the stages that are named, and blank ones after them
unfoldable pub patch_of : FlatPatch → Patch
patch_of f = record { count = f.count; stages = window (replicate 32 blank_stage) 0 (named_count f) (λ k. stage_or (name_at f k)) }

abbrev pub named_patch_of : FlatPatch → Result Patch Unknown
named_patch_of f = cond (eqb (unknown_of f) 32) (Ok (patch_of f)) (Err (record { stage = unknown_of f; before = patch_of f }))
