-- What the exported functions answer and leave, for any input. Assumes nothing.
--     a refusal leaves as its number and its stage                      told_of, of answers; answer_of, told_pool, told_pools
--     an activity leaves as its rank, a buffer comes as its number      answer_of; buffer_of, of magnetron
--     a file's patch, or its refusal's number and offset                read_of, of files; read_patch_of
--     a single write                                                    write_of, of magnetron; flat_write_of
--     A RUN                                                             run_of, of engine; flat_run_of
--     what a string tells leaves as its number                          reach_numbers, of flat
use Rattle.std.specs.Prelude.{ℕ, Bool, cond, List, Option, Some, None, Result, eqb, replicate, Float}
use Rattle.numbers.specs.Outcome.{Outcome, outcome}
use Rattle.answers.specs.Activity.{rank_of}
use Rattle.answers.specs.Refusal.{told_of, activity_of}
use Rattle.answers.specs.declared.activity.StageActivity.{StageActivity}
use Rattle.answers.specs.declared.refusal.Refusal.{Refusal}
use Rattle.magnetron.specs.Buffers.{buffer_of}
use Rattle.magnetron.specs.Single.{Lent, write_of, AfterWrite}
use Rattle.magnetron.specs.declared.inputs.Inputs.{Inputs}
use Rattle.magnetron.specs.declared.pool.Pools.{Pools}
use Rattle.magnetron.specs.declared.prepare.Made.{Made}
use Rattle.magnetron.specs.declared.prepare.Prepared.{Prepared}
use Rattle.magnetron.specs.declared.write.Wrote.{Wrote}
use Rattle.stages.specs.declared.state.States.{States}
use Rattle.engine.specs.declared.run.Ran.{Ran}
use Rattle.engine.specs.Run.{Given, After, run_of}
use Rattle.flat.specs.Patch.{unknown_of}
use Rattle.flat.specs.Reach.{reach_numbers}
use Rattle.flat.specs.declared.patch.FlatPatch.{FlatPatch}
use Rattle.files.specs.File as answered
use Rattle.host.specs.declared.file.ReadPatch.{ReadPatch}
use Rattle.host.specs.declared.run.FlatAnswer.{FlatAnswer}
use Rattle.host.specs.declared.run.FlatRan.{FlatRan}
use Rattle.host.specs.declared.pools.FlatMade.{FlatMade}
use Rattle.host.specs.declared.pools.FlatPrepared.{FlatPrepared}
use Rattle.host.specs.declared.pools.FlatWrote.{FlatWrote}

-- ---- records that cross

-- an outcome whose result leaves in another form, over what is lent as it is
abbrev pub crossed : {R F C : Type 0} → (R → F) → Outcome R C → Outcome F C
crossed flat o = outcome (flat o.result) o.contents

abbrev pub answer_of : Result StageActivity Refusal → FlatAnswer
answer_of a = record { number = (told_of a).number; stage = (told_of a).stage; activity = rank_of (activity_of a) }

abbrev pub told_pool : Made → FlatMade
told_pool m = record { verdict = told_of m.verdict; pool = m.pool }

abbrev pub told_pools : Prepared → FlatPrepared
told_pools p = record { verdict = told_of p.verdict; pools = p.pools }

abbrev pub wrote_of : Wrote → FlatWrote
wrote_of w = record { answer = answer_of w.answer; pools = w.pools }

abbrev pub ran_of : Ran → FlatRan
ran_of r = record { answer = answer_of r.answer; pools = r.pools; states = r.states; reach = reach_numbers r.reaches }

-- what a file is answered with, as files has it in numbers
abbrev pub read_patch_of : answered.ReadPatch → ReadPatch
read_patch_of r = record { number = r.number; offset = r.offset; patch = r.patch }

-- ---- a single write

abbrev pub level_in : Bool → Float → Option Float
level_in has level = cond has (Some level) None

-- its answer with the pools' records, and both pools' samples
pub record FlatAfterWrite : Type 0 where
  pub wrote : FlatWrote
  pub internal : List Float
  pub external : List Float

abbrev pub flat_after_write : FlatWrote → List Float → List Float → FlatAfterWrite
flat_after_write w internal external = record { wrote = w; internal = internal; external = external }

abbrev pub flat_wrote : AfterWrite → FlatAfterWrite
flat_wrote l = flat_after_write (wrote_of l.wrote) l.internal l.external

-- a single write of magnetron's
unfoldable pub flat_write_of : Lent → Inputs → List Float → ℕ → Bool → Float → FlatAfterWrite
flat_write_of l inputs values output has level = flat_wrote (write_of l inputs values (buffer_of output) (level_in has level))

-- ---- the run

-- its answer with the records, and all three slices that it is lent to change
pub record FlatAfter : Type 0 where
  pub ran : FlatRan
  pub internal : List Float
  pub external : List Float
  pub rings : List Float

abbrev pub flat_after : FlatRan → List Float → List Float → List Float → FlatAfter
flat_after r internal external rings = record { ran = r; internal = internal; external = external; rings = rings }

abbrev pub flat_ran : After → FlatAfter
flat_ran l = flat_after (ran_of l.ran) l.internal l.external l.rings

-- refused with 22 and the stage whose numbers name none, and no string out of reach
abbrev pub unknown_ran : ℕ → Pools → States → FlatRan
unknown_ran k p states = record { answer = record { number = 22; stage = k; activity = 0 }; pools = p; states = states; reach = replicate 32 0 }

-- a run of engine's, given the patch that the numbers name; where a stage's numbers name none, nothing changes
unfoldable pub flat_run_of : FlatPatch → Given → List ℕ → FlatAfter
flat_run_of f g order =
    cond (eqb (unknown_of f) 32)
    (flat_ran (run_of g order))
    (flat_after (unknown_ran (unknown_of f) g.pools g.states) g.internal g.external g.rings)
