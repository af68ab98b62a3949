-- A RUN, as documents 01 and 02 have it: demand 2's definition. What `run` answers and leaves is `run_of`, for any input: all checks, then the stages along the order.
-- What each kind of stage is, the crate `stages` says. What it is to read and to write a buffer, the crate `magnetron` says.
-- Definitions only. Assumes nothing.
--
-- 01's sentences, and where they are said:
--     "Rings lie end to end in stage-number order in one lent slice."                       ring_at, of stages; own_of
--     1 to 4                                                                                entry
--     5, 8, 6, 7, "for each stage along the order"                                          fault_of, fault
--     "For 7, a buffer is not stale if it wasn't on entry or an earlier stage of this order writes it."    turned
--     "All of it precedes the first sample."                                                judged, rendered
--     "A refusal returns its number, the stage (32 for 1 to 4) and Exhausted; every record and lent slice is unchanged."    judged, after_by
--     "Reading gives the first n samples of a buffer, or n zeros where it is stale"         heard, of magnetron; played
--     "Writing stores on a stale buffer .., and adds .. on any other; then the mark is cleared"    write, of magnetron; put_played
--     "Each value is first multiplied by out_level, 1.0 if absent."                         level_asks, of stages; levelled, of magnetron; sounded
--     "Activity is that of the output's kind; a run's is the greatest, Exhausted if empty." louder, ended
-- And 02's, Five:
--     "The run's result holds, for each stage number, the answer of its last sample, and "within" for .. unordered stages, .. and refusals."    reaches, ended, after_by
use Rattle.std.specs.Prelude.{Bool, true, false, not, ◌&&◌, ◌||◌, cond, ℕ, eqb, leb, ltb, length, get_or, set, take, drop, Float, Some, None, Ok, Err}
use Rattle.std.specs.Prelude as prelude
use mathlib.Core.List.{List, [], ◌∷◌, ◌++◌, map, zip_with}
use Rattle.std.proofs.Math.Option.{Option, none, some}
use Rattle.std.proofs.lemmas.List.Edits.{sets}
use Rattle.std.specs.Float.{nan}
use Rattle.numbers.specs.Constants.{zero64}
use Rattle.order.specs.Order.{runs}
use Rattle.order.specs.Checks.{unless, first, verdict}
use Rattle.answers.specs.declared.activity.StageActivity.{StageActivity}
use Rattle.answers.specs.declared.activity.StageActivity.TheVariants.{Exhausted}
use Rattle.answers.specs.declared.refusal.Reason.{Reason}
use Rattle.answers.specs.declared.refusal.Reason.TheVariants.{Bounds, Window, Order, Ring, Buffer, Parameter, Clash, Outputs}
use Rattle.answers.specs.declared.refusal.Refusal.{Refusal}
use Rattle.magnetron.specs.Signals.{tab, state_at, machine}
use Rattle.magnetron.specs.Buffers.{Shape, Banks, line_at, heard, write, pairs, cleared, marks_of, louder_by}
use Rattle.magnetron.specs.Pools.{shape_of, banks_of, marks_in, remarked}
use Rattle.magnetron.specs.Checks.{shape_ok, window_ok, all_there, no_clash, none_twice}
use Rattle.magnetron.specs.Single.{levelled}
use Rattle.magnetron.specs.declared.buffer.Marks.{Marks}
use Rattle.magnetron.specs.declared.buffer.BufferIndex.{BufferIndex}
use Rattle.magnetron.specs.declared.pool.Pools.{Pools}
use Rattle.util.specs.declared.reach.Reach.{Reach}
use Rattle.util.specs.declared.reach.Reach.TheVariants.{Within}
use Rattle.microwave.specs.Parameter.{all_found, number_for, numbers_of}
use Rattle.microwave.specs.declared.parameter.Ask.{Ask}
use Rattle.stages.specs.declared.stage.Stage.{Stage}
use Rattle.stages.specs.declared.patch.Patch.{Patch}
use Rattle.stages.specs.declared.state.State.{State}
use Rattle.stages.specs.declared.state.States.{States}
use Rattle.stages.specs.declared.window.RenderWindow.{RenderWindow}
use Rattle.stages.specs.declared.machine.Machine.{Machine}
use Rattle.stages.specs.Stage.{inputs_of, second_of, outputs_of, asks_of, level_asks, Own, own, window_of, settled, machines_by, entered, Hears, hear, next_of, out_of}
use Rattle.stages.specs.Rings.{no_state, stage_in, len_in, ring_at, rings_ok}
use Rattle.stages.specs.Reach.{last_reach, all_within}
use Rattle.engine.specs.declared.run.Ran.{Ran}

-- ---- what is given, and what changes

-- all that a run is given beside its order: a patch, the records, how many samples and how many seconds each is wide, and the lent slices
pub record Given : Type 0 where
  pub patch : Patch
  pub pools : Pools
  pub states : States
  pub samples : ℕ
  pub width : Float
  pub internal : List Float
  pub external : List Float
  pub zeros : List Float
  pub rings : List Float
  pub values : List Float

abbrev pub given : Patch → Pools → States → ℕ → Float → List Float → List Float → List Float → List Float → List Float → Given
given patch pools states n width internal external zeros rings values = record {
  patch = patch;
  pools = pools;
  states = states;
  samples = n;
  width = width;
  internal = internal;
  external = external;
  zeros = zeros;
  rings = rings;
  values = values;
}

-- of it, what does not change in a run
pub record Plan : Type 0 where
  pub patch : Patch
  pub pools : Pools
  pub window : RenderWindow
  pub values : List Float

-- and what does: samples and marks of both pools, all state records, all rings end to end
pub record World : Type 0 where
  pub banks : Banks
  pub states : List State
  pub rings : List Float

abbrev pub plan_of : Given → Plan
plan_of g = record { patch = g.patch; pools = g.pools; window = window_of g.samples g.width; values = g.values }

abbrev pub world_of : Given → World
world_of g = record { banks = banks_of g.internal g.external (marks_in g.pools); states = g.states.stages; rings = g.rings }

abbrev pub stage_at : Plan → ℕ → Stage
stage_at P k = stage_in P.patch k

-- the buffers that stage k reads, and those that it writes
abbrev pub ins_at : Plan → ℕ → List BufferIndex
ins_at P k = inputs_of (stage_at P k).kind

abbrev pub outs_at : Plan → ℕ → List BufferIndex
outs_at P k = outputs_of (stage_at P k)

-- ---- the checks

-- not 3, "the order names a stage that isn't there, names one twice, or is longer than 32"
abbrev pub all_below : ℕ → List ℕ → Bool
all_below c [] = true
all_below c (k ∷ ks) = ltb k c && all_below c ks

abbrev pub holds : ℕ → List ℕ → Bool
holds k [] = false
holds k (x ∷ xs) = eqb k x || holds k xs

abbrev pub repeats : List ℕ → Bool
repeats [] = false
repeats (k ∷ ks) = holds k ks || repeats ks

unfoldable pub orderly : ℕ → List ℕ → Bool
orderly count ks = leb (length ks) 32 && (all_below count ks && not (repeats ks))

-- "Checks 1 to 4 come first, in that order"
--     1   "a count of buffers or stages, or a capacity, is over its bound, a pool slice has another length, or the lent zeros aren't exactly one +0.0 per sample of the internal capacity"
--     2   "the window is longer than the internal capacity, or than the external one where there are external buffers"
unfoldable pub entry : Plan → List Float → List ℕ → World → Option Reason
entry P zeros ks w =
    first (unless (shape_ok P.pools (length w.banks.internal.samples) (length w.banks.external.samples) zeros && leb P.patch.count 32) Bounds)
    (first (unless (window_ok P.pools P.window.buffer_len) Window)
    (first (unless (orderly P.patch.count ks) Order)
    (unless (rings_ok P.patch w.states (length w.rings)) Ring)))

-- "Then 5, 6, 7 for each stage along the order.", and 8, "checked after 5 and before 6": of one stage, at the marks of its turn
--     5   "a stage names a buffer that isn't there"
--     8   "both outputs are the same buffer at any window length"
--     6   "a parameter's slot is past the lent values, or a required parameter is absent", "also where just one level of the pair is absent"
--     7   "the window isn't empty and a stage's output is also one of its inputs and is not stale at its turn": it "looks at both"
unfoldable pub fault_of : Pools → RenderWindow → List Float → Stage → Marks → Option Reason
fault_of pools window values stage m =
    first (unless (all_there pools (inputs_of stage.kind ++ outputs_of stage)) Buffer)
    (first (unless (none_twice (outputs_of stage)) Outputs)
    (first (unless (all_found (level_asks stage ++ asks_of stage.kind) values window.render_window_secs) Parameter)
    (unless (no_clash window.buffer_len (inputs_of stage.kind) (outputs_of stage) m) Clash)))

-- a refusal with its stage, or with none: "the stage (32 for 1 to 4)", where `stage_number` of answers gives 32
abbrev pub named : prelude.Option ℕ → Option Reason → Option Refusal
named stage none = none
named stage (some r) = some (record { reason = r; stage = stage })

unfoldable pub fault : Plan → ℕ → Marks → Option Refusal
fault P k m = named (Some k) (fault_of P.pools P.window P.values (stage_at P k) m)

-- the marks after its turn: "a buffer is not stale if it wasn't on entry or an earlier stage of this order writes it"
unfoldable pub turned : Plan → ℕ → Marks → Marks
turned P k m = runs cleared (outs_at P k) m

-- all checks: none, or the first refusal
unfoldable pub judged : Plan → List Float → List ℕ → World → Option Refusal
judged P zeros ks w = first (named None (entry P zeros ks w)) (verdict (fault P) (turned P) ks (marks_of w.banks))

-- ---- one stage over a window

-- sample i of what is heard of each input
abbrev pub hears : List (List Float) → ℕ → Hears
hears [] i = hear zero64 zero64
hears (a ∷ []) i = hear (get_or a i nan) zero64
hears (a ∷ b ∷ rest) i = hear (get_or a i nan) (get_or b i nan)

-- what a stage keeps, and the samples that it writes to each of its outputs
pub record Played : Type 0 where
  pub kept : Own
  pub outs : List (List Float)

-- what a machine answers along n samples of its inputs, each multiplied by its output's level
abbrev pub sounded : ℕ → Own → List (List Float) → Float → Machine → List Float
sounded n o ins level m = levelled level (tab n (machine (next_of m) (out_of m) o (hears ins)))

-- "n samples of a buffer, or n zeros where it is stale", of each input, where the pools are as `b` says
abbrev pub heard_of : Pools → ℕ → List BufferIndex → Banks → List (List Float)
heard_of pools n ins b = map (λ (a : BufferIndex). heard n (line_at (shape_of pools n) a b)) ins

-- A stage that has `o` to itself: its parameters as numbers, the start of the window, then a machine to each output. What is heard is heard
-- before anything is written, and what is remembered is the machine's of the stage's own output.
abbrev pub played : Pools → RenderWindow → List Float → Stage → Own → Banks → Played
played pools window values stage o b =
    let q = numbers_of (asks_of stage.kind) values window.render_window_secs in
    let m = settled stage.kind q window o.state in
    let start = own (entered stage.kind q o.state) o.ring in
    let ins = heard_of pools window.buffer_len (inputs_of stage.kind) b in
    record {
      kept = state_at (next_of m) start (hears ins) window.buffer_len;
      outs =
          zip_with (sounded window.buffer_len start ins) (map (λ (ask : Ask). number_for ask values window.render_window_secs) (level_asks stage))
          (machines_by (second_of stage.kind) m q);
    }

-- what stage k has to itself: its state record, and its part of the rings
unfoldable pub own_of : Plan → ℕ → World → Own
own_of P k w = own (get_or w.states k no_state) (take (len_in P.patch k) (drop (ring_at P.patch k) w.rings))

abbrev pub played_at : Plan → ℕ → World → Played
played_at P k w = played P.pools P.window P.values (stage_at P k) (own_of P k w) w.banks

abbrev pub shape_in : Plan → Shape
shape_in P = shape_of P.pools P.window.buffer_len

-- its outputs are written, and what it keeps is put back
unfoldable pub put_played : Plan → ℕ → Played → World → World
put_played P k a w = record {
  banks = runs (write (shape_in P)) (pairs (outs_at P k) a.outs) w.banks;
  states = set w.states k a.kept.state;
  rings = sets w.rings (ring_at P.patch k) (take (len_in P.patch k) a.kept.ring);
}

-- ONE STAGE of a run
unfoldable pub staged : Plan → ℕ → World → World
staged P k w = put_played P k (played_at P k w) w

-- an activity, or that of stage k where it is greater: "Activity is that of the output's kind", or "the greater of the two"
unfoldable pub louder : Plan → ℕ → StageActivity → StageActivity
louder P k a = runs louder_by (outs_at P k) a

-- ---- whether each string reaches its note: of the plan and the order alone

-- the answer of a stage's last sample
abbrev pub told_of : RenderWindow → List Float → Stage → Reach
told_of window values stage = last_reach stage.kind (numbers_of (asks_of stage.kind) values window.render_window_secs) window

-- "for each stage number"; "'within' for .. unordered stages"
unfoldable pub told_at : Plan → List ℕ → ℕ → Reach
told_at P ks k = cond (holds k ks) (told_of P.window P.values (stage_at P k)) Within

unfoldable pub reaches : Plan → List ℕ → List Reach
reaches P ks = tab 32 (told_at P ks)

-- ---- the run

pub data Rendered : Type 0 where
  refused : Refusal → Rendered
  done : StageActivity → List Reach → World → Rendered

-- refused as judged, or all stages in order; "a run's [activity] is the greatest, Exhausted if empty"
unfoldable pub ended : Plan → List ℕ → World → Option Refusal → Rendered
ended P ks w none = done (runs (louder P) ks Exhausted) (reaches P ks) (runs (staged P) ks w)
ended P ks w (some r) = refused r

-- "All of it precedes the first sample.": the verdict is of the world on entry
unfoldable pub rendered : Plan → List Float → List ℕ → World → Rendered
rendered P zeros ks w = ended P ks w (judged P zeros ks w)

-- what `run` answers, with what it leaves in the lent slices
pub record After : Type 0 where
  pub ran : Ran
  pub internal : List Float
  pub external : List Float
  pub rings : List Float

abbrev pub after : Ran → List Float → List Float → List Float → After
after r internal external rings = record { ran = r; internal = internal; external = external; rings = rings }

-- "A refusal returns its number, the stage .. and Exhausted; every record and lent slice is unchanged."; "0: done; stage 32"
unfoldable pub after_by : Plan → World → Rendered → After
after_by P w (refused r) =
    after (record { answer = Err r; pools = P.pools; states = record { stages = w.states }; reaches = all_within })
    w.banks.internal.samples w.banks.external.samples w.rings
after_by P w (done a told u) =
    after (record { answer = Ok a; pools = remarked P.pools (marks_of u.banks); states = record { stages = u.states }; reaches = record { stages = told } })
    u.banks.internal.samples u.banks.external.samples u.rings

-- THE DEFINITION
unfoldable pub run_of : Given → List ℕ → After
run_of g order = after_by (plan_of g) (world_of g) (rendered (plan_of g) g.zeros order (world_of g))
