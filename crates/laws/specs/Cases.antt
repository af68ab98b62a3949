-- The starred cases of document 01 as one table: a case is of a sort, with what is given and what is listed, and `Holds` says what it means
-- over the definitions: of a run, `run_of`, and of single operations on a ring, those of the crate `util`.
-- The theorem is `listed`, of proofs/Listed.antt. Definitions only. Assumes nothing.
use Rattle.std.specs.Prelude.{◌≡◌, Bool, true, false, List, [], ◌∷◌, ◌++◌, map, ℕ, ◌-◌, pos, length, replicate, Float}
use Rattle.std.specs.Float.{binary64}
use Rattle.std.specs.Float.Ieee.{of_bits, of_int, neg}
use Rattle.numbers.specs.Constants.{zero64, one64, half64, quarter64, three_quarters64}
use Rattle.answers.specs.declared.activity.StageActivity.TheVariants.{Exhausted, Internal}
use Rattle.std.specs.Prelude.{Result, Ok, Err, Some}
use Rattle.answers.specs.declared.activity.StageActivity.{StageActivity}
use Rattle.answers.specs.declared.refusal.Reason.{Reason}
use Rattle.answers.specs.declared.refusal.Reason.TheVariants.{Clash}
use Rattle.answers.specs.declared.refusal.Refusal.{Refusal}
use Rattle.answers.specs.Refusal.{told_of, activity_of}
use Rattle.magnetron.specs.Pools.{fresh_pool}
use Rattle.magnetron.specs.declared.buffer.BufferIndex.TheVariants as index
use Rattle.magnetron.specs.declared.pool.Pools.{Pools}
use Rattle.util.specs.Cases as rings
use Rattle.util.specs.Cases.{ring_read, all_pass_run, comb_run}
use Rattle.microwave.specs.declared.parameter.Parameter.TheVariants.{Absent}
use Rattle.stages.specs.declared.kind.Kind.TheVariants.{Pass}
use Rattle.stages.specs.declared.stage.Stage.{Stage}
use Rattle.stages.specs.declared.patch.Patch.{Patch}
use Rattle.stages.specs.Stage.{new_states}
use Rattle.stages.specs.Rings.{no_stage}
use Rattle.engine.specs.Run.{given, After, run_of}

-- ---- what is run: Pass stages over a few internal buffers of one sample

pub record Buffer : Type 0 where
  pub mark : Bool
  pub sample : Float

abbrev pub stale : Float → Buffer
stale x = record { mark = true; sample = x }

abbrev pub holding : Float → Buffer
holding x = record { mark = false; sample = x }

-- stage k passes buffer k to buffer 0: the input of stage 0 is its output
abbrev passing : ℕ → Stage
passing k = record { kind = Pass (index.Internal k); output = index.Internal 0; out_level = Absent }

abbrev pub adder : Patch
adder = record { count = 4; stages = map passing (0 ∷ 1 ∷ 2 ∷ 3 ∷ []) ++ replicate 28 no_stage }

abbrev pub pools_of : List Buffer → Pools
pools_of buffers = record {
  internal = record { count = length buffers; capacity = 1; stale = map (λ (b : Buffer). b.mark) buffers ++ replicate (16 - length buffers) false };
  external = fresh_pool 0 0;
  reset = false;
}

-- a window of n samples, with these stages in order
abbrev pub added : List Buffer → ℕ → List ℕ → After
added buffers n order = run_of (given adder (pools_of buffers) new_states n one64 (map (λ (b : Buffer). b.sample) buffers) [] (zero64 ∷ []) [] []) order

-- ---- the sorts of cases

-- an answer in the document's words: "its number, the stage .. and Exhausted", or 0, 32 and an activity
pub record Words : Type 0 where
  pub number : ℕ
  pub stage : ℕ
  pub activity : StageActivity

abbrev words_of : Result StageActivity Refusal → Words
words_of answer = record { number = (told_of answer).number; stage = (told_of answer).stage; activity = activity_of answer }

pub data Case : Type 0 where
  -- buffers, window and order of such a run; its answer, the same in the document's words, and what the buffers hold then
  a_run : List Buffer → ℕ → List ℕ → Result StageActivity Refusal → Words → List Float → Case
  -- a ring, an all-pass or a comb by itself
  a_ring : rings.Case → Case

unfoldable pub Holds : Case → Type 0
Holds (a_run buffers n order answer words samples) =
    let after = added buffers n order in
    (after.ran.answer ≡ answer) × (after.internal ≡ samples) × (words_of after.ran.answer ≡ words)
Holds (a_ring c) = rings.Holds c

-- every case of a list holds
unfoldable pub All : List Case → Type 0
All [] = Unit {0}
All (c ∷ cs) = Holds c × All cs

-- ---- the words of the table

abbrev refused : Reason → ℕ → Result StageActivity Refusal
refused reason stage = Err (record { reason = reason; stage = Some stage })

-- a number, at a stage
abbrev told : ℕ → ℕ → Words
told number stage = record { number = number; stage = stage; activity = Exhausted }

-- "0: done; stage 32", with an activity
abbrev done : StageActivity → Words
done activity = record { number = 0; stage = 32; activity = activity }

abbrev pub whole : ℕ → Float
whole n = of_int binary64 (pos n)

abbrev three_eighths64 : Float
three_eighths64 = of_bits binary64 0x3fd8_0000_0000_0000

abbrev three_sixteenths64 : Float
three_sixteenths64 = of_bits binary64 0x3fc8_0000_0000_0000

abbrev minus_zero : Float
minus_zero = neg (whole 0)

abbrev e16 : Float
e16 = whole 10000000000000000

-- a sum that starts at 0, and three terms
abbrev pub terms : List Buffer
terms = holding (whole 0) ∷ holding e16 ∷ holding (neg e16) ∷ holding (whole 1) ∷ []

abbrev tens : List Float
tens = whole 10 ∷ whole 20 ∷ whole 30 ∷ []

-- 1, 0, 0, .. with n zeros
abbrev impulse : ℕ → List Float
impulse n = whole 1 ∷ replicate n (whole 0)

unfoldable pub table : List Case
table =
    -- 1: "Stale buffer, store -0.0: -0.0 stays."
    a_run (stale (whole 7) ∷ holding minus_zero ∷ []) 1 (1 ∷ []) (Ok Internal) (done Internal) (minus_zero ∷ minus_zero ∷ [])
    -- 2: "Not stale, 0.0 there, add -0.0: 0.0."
    ∷ a_run (holding (whole 0) ∷ holding minus_zero ∷ []) 1 (1 ∷ []) (Ok Internal) (done Internal) (whole 0 ∷ minus_zero ∷ [])
    -- 3: "Input is output, stale, Pass: zeros."
    ∷ a_run (stale (whole 7) ∷ []) 1 (0 ∷ []) (Ok Internal) (done Internal) (whole 0 ∷ [])
    -- 4: "Same, not stale, n = 1: 7; n = 0: 0."
    ∷ a_run (holding (whole 7) ∷ []) 1 (0 ∷ []) (refused Clash 0) (told 7 0) (whole 7 ∷ [])
    ∷ a_run (holding (whole 7) ∷ []) 0 (0 ∷ []) (Ok Internal) (done Internal) (whole 7 ∷ [])
    -- 5 to 9: "Ring (10, 20, 30), position 0: f = 0 gives 10; f = 0.25 gives 20; f = 0.5, 30; f = 0.75, 25; f = 1, 20."
    ∷ a_ring (ring_read tens 0 (whole 0) (whole 10))
    ∷ a_ring (ring_read tens 0 quarter64 (whole 20))
    ∷ a_ring (ring_read tens 0 half64 (whole 30))
    ∷ a_ring (ring_read tens 0 three_quarters64 (whole 25))
    ∷ a_ring (ring_read tens 0 (whole 1) (whole 20))
    -- 10: "AllPass, ring length 2, whole delay, g 0.5, input 1,0,0,0: -0.5, 0.75, 0.375, 0.1875."
    ∷ a_ring (all_pass_run 2 half64 (impulse 3) (neg half64 ∷ three_quarters64 ∷ three_eighths64 ∷ three_sixteenths64 ∷ []))
    -- 11: "Comb, ring length 3, response 0.5, limit 1, whole delay, input 1,0,0,0,0: 0, 0, 0.5, 0, 0.25."
    ∷ a_ring (comb_run 3 half64 (whole 1) (impulse 4) (whole 0 ∷ whole 0 ∷ half64 ∷ whole 0 ∷ quarter64 ∷ []))
    -- 12: "Adding 1e16, -1e16, 1 gives 1; 1e16, 1, -1e16 gives 0: such writers may not change places."
    ∷ a_run terms 1 (1 ∷ 2 ∷ 3 ∷ []) (Ok Internal) (done Internal) (whole 1 ∷ e16 ∷ neg e16 ∷ whole 1 ∷ [])
    ∷ a_run terms 1 (1 ∷ 3 ∷ 2 ∷ []) (Ok Internal) (done Internal) (whole 0 ∷ e16 ∷ neg e16 ∷ whole 1 ∷ [])
    -- 13: "Empty order, checks 1 to 4 passed: 0, Exhausted." Here one run; of any input, `thirteen` of proofs/Listed.antt
    ∷ a_run terms 1 [] (Ok Exhausted) (done Exhausted) (whole 0 ∷ e16 ∷ neg e16 ∷ whole 1 ∷ [])
    ∷ []
