-- WHAT A RUN ANSWERS, AND WHAT A REFUSED ONE LEAVES, read off the definition of a run for any patch, order and lent slices.
--     answered             0 comes with stage 32, 1 to 4 with stage 32, and 5 to 8 with a stage of the order
--     refused_unchanged    nothing but the answer is new, its activity is Exhausted, and no string is out of reach
-- Assumes nothing.
use mathlib.Core.Path.{◌≡◌, refl}
use mathlib.Core.Logic.{◌≢◌, ◌⊎◌, inl, inr}
use mathlib.Core.Bool.{Bool, true, false, ◌&&◌}
use mathlib.Core.List.{List, [], ◌∷◌, ◌++◌}
use mathlib.Core.Option.{Option, none, some}
use Prim.Native.Nat.{ℕ, ◌≤◌}
use native.Mathlib.Omega.{arith}
use lib.Dec.{leb}
use lib.ListN.{length}
use lib.Ieee.{Float}
use Rattle.order.specs.Order.{Among}
use Rattle.order.specs.Checks.{unless, first, verdict}
use Rattle.std.specs.Prelude.{Some, None}
use Rattle.answers.specs.Refusal.{number_of, stage_number, told_of, activity_of}
use Rattle.answers.specs.declared.refusal.Reason.TheVariants.{Bounds, Window, Order, Ring, Buffer, Parameter, Clash, Outputs}
use Rattle.answers.specs.declared.refusal.Refusal.{Refusal}
use Rattle.answers.specs.declared.refusal.Told.{Told}
use Rattle.answers.specs.declared.activity.StageActivity.TheVariants.{Exhausted}
use Rattle.magnetron.specs.Buffers.{marks_of}
use Rattle.magnetron.specs.Checks.{shape_ok, window_ok, all_there, no_clash, none_twice}
use Rattle.magnetron.specs.declared.buffer.Marks.{Marks}
use Rattle.microwave.specs.Parameter.{all_found}
use Rattle.stages.specs.Stage.{inputs_of, outputs_of, asks_of, level_asks}
use Rattle.stages.specs.Rings.{rings_ok}
use Rattle.stages.specs.Reach.{all_within}
use Rattle.engine.specs.Run.{Plan, World, stage_at, orderly, Given, After, after, plan_of, world_of, entry, fault_of, named, fault, turned, judged, ended, rendered, after_by, run_of}

-- ---- the numbers of the checks

-- a refusal of the checks, if any, has a number from `low` to `high` and names one of these stages
abbrev Names : ℕ → ℕ → List ℕ → Option Refusal → Type 0
Names low high stages none = Unit {0}
Names low high stages (some r) = (low ≤ number_of r.reason) × (number_of r.reason ≤ high) × Among (stage_number r.stage) stages

entry_names : (P : Plan) (zeros : List Float) (ks : List ℕ) (w : World) → Names 1 4 (32 ∷ []) (named None (entry P zeros ks w))
unfolding entry
entry_names P zeros ks w =
    go (shape_ok P.pools (length w.banks.internal.samples) (length w.banks.external.samples) zeros && leb P.patch.count 32)
    (window_ok P.pools P.window.buffer_len) (orderly P.patch.count ks) (rings_ok P.patch w.states (length w.rings))
  where
    go : (a b c d : Bool) → Names 1 4 (32 ∷ []) (named None (first (unless a Bounds) (first (unless b Window) (first (unless c Order) (unless d Ring)))))
    go false b c d = (omega arith, omega arith, inl refl)
    go true false c d = (omega arith, omega arith, inl refl)
    go true true false d = (omega arith, omega arith, inl refl)
    go true true true false = (omega arith, omega arith, inl refl)
    go true true true true = tt

fault_names : (P : Plan) (k : ℕ) (ks : List ℕ) (m : Marks) → Names 5 8 (k ∷ ks) (fault P k m)
unfolding fault fault_of
fault_names P k ks m =
    let t = stage_at P k in
    go (all_there P.pools (inputs_of t.kind ++ outputs_of t)) (none_twice (outputs_of t)) (all_found (level_asks t ++ asks_of t.kind) P.values P.window.render_window_secs)
    (no_clash P.window.buffer_len (inputs_of t.kind) (outputs_of t) m)
  where
    go : (a b c d : Bool) → Names 5 8 (k ∷ ks) (named (Some k) (first (unless a Buffer) (first (unless b Outputs) (first (unless c Parameter) (unless d Clash)))))
    go false b c d = (omega arith, omega arith, inl refl)
    go true false c d = (omega arith, omega arith, inl refl)
    go true true false d = (omega arith, omega arith, inl refl)
    go true true true false = (omega arith, omega arith, inl refl)
    go true true true true = tt

along_names : (P : Plan) (ks : List ℕ) (m : Marks) → Names 5 8 ks (verdict (fault P) (turned P) ks m)
along_names P [] m = tt
along_names P (k ∷ ks) m = go (fault P k m) (verdict (fault P) (turned P) ks (turned P k m)) (fault_names P k ks m) (along_names P ks (turned P k m))
  where
    go : (o rest : Option Refusal) → Names 5 8 (k ∷ ks) o → Names 5 8 ks rest → Names 5 8 (k ∷ ks) (first o rest)
    go none none h t = tt
    go none (some v) h t = (t.0, t.1, inr t.2)
    go (some v) rest h t = h

-- ---- a run

module _ (g : Given) (order : List ℕ) where
  abbrev plan : Plan
  plan = plan_of g

  abbrev world : World
  world = world_of g

  abbrev run : After
  run = run_of g order

  -- "0 | done; stage 32"; "A refusal returns its number, the stage (32 for 1 to 4) .."
  abbrev Answered : Told → Type 0
  Answered a = ((a.number ≡ 0) × (a.stage ≡ 32)) ⊎ ((1 ≤ a.number) × (a.number ≤ 4) × (a.stage ≡ 32)) ⊎ ((5 ≤ a.number) × (a.number ≤ 8) × Among a.stage order)

  pub answered : Answered (told_of run.ran.answer)
  unfolding run_of rendered judged ended after_by
  answered =
      go (named None (entry plan g.zeros order world)) (verdict (fault plan) (turned plan) order (marks_of world.banks))
      (entry_names plan g.zeros order world) (along_names plan order (marks_of world.banks))
    where
      go : (o along : Option Refusal) → Names 1 4 (32 ∷ []) o → Names 5 8 order along → Answered (told_of (after_by plan world (ended plan order world (first o along))).ran.answer)
      go none none h k = inl (refl, refl)
      go none (some v) h k = inr (inr k)
      go (some v) along (low, high, inl e) k = inr (inl (low, high, e))
      go (some v) along (low, high, inr e) k = elim e [ ]

  -- ".. and Exhausted; every record and lent slice is unchanged."; 02: "'within' for .. refusals"
  abbrev Unchanged : After → Type 0
  Unchanged l = (l ≡ after (record { answer = l.ran.answer; pools = g.pools; states = g.states; reaches = all_within }) g.internal g.external g.rings)
      × (activity_of l.ran.answer ≡ Exhausted)

  pub refused_unchanged : (told_of run.ran.answer).number ≢ 0 → Unchanged run
  unfolding run_of rendered ended after_by
  refused_unchanged = go (judged plan g.zeros order world)
    where
      leaves : Option Refusal → After
      leaves o = after_by plan world (ended plan order world o)

      go : (o : Option Refusal) → (told_of (leaves o).ran.answer).number ≢ 0 → Unchanged (leaves o)
      go none r = absurd (r refl)
      go (some v) r = (refl, refl)
