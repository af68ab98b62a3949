-- A NESTED RUN, of anything that an inner run is given, any order, and any outer pools. "In a nested run the outer internal buffers are the inner external ones; their marks
-- are not touched by prepare."
--     inner_prepare      leaves the outer pools as they were
--     inner_run          clears the mark of each outer buffer that a stage of the order writes, and of no other
--     inner_run_else     changes nothing else of the outer pools' record
--     inner_refused      leaves them as they were
-- It says nothing of samples: the outer internal slice is the one that the inner run is lent, and `run_of` says what it leaves there. Assumes nothing.
use mathlib.Core.Path.{◌≡◌, refl, sym, ap, ◌∙◌}
use mathlib.Core.Logic.{◌≢◌}
use mathlib.Core.Bool.{Bool, true, false, not, ◌&&◌, ◌||◌, true≢false, and-true, and-false}
use mathlib.Core.List.{List, [], ◌∷◌}
use mathlib.Core.Option.{Option, none, some}
use Prim.Native.Nat.{ℕ, zero, suc}
use lib.ListN.{get_or, set}
use borrow.Author.Tests.{eqb-true}
use Rattle.order.specs.Order.{runs}
use Rattle.order.specs.Checks.{passed}
use Rattle.answers.specs.Refusal.{told_of}
use Rattle.answers.specs.declared.refusal.Refusal.{Refusal}
use Rattle.magnetron.specs.Buffers.{same_buffer, hits, marks_of, stale_at, cleared}
use Rattle.magnetron.specs.Pools.{marks_in, marked}
use Rattle.magnetron.specs.Single.{Lent, lent, prepared_of}
use Rattle.magnetron.specs.declared.buffer.BufferIndex.{BufferIndex}
use Rattle.magnetron.specs.declared.buffer.BufferIndex.TheVariants.{External, Internal}
use Rattle.magnetron.specs.declared.buffer.Marks.{Marks}
use Rattle.magnetron.specs.declared.pool.Pool.{Pool}
use Rattle.magnetron.specs.declared.pool.Pools.{Pools}
use Rattle.magnetron.proofs.Stores.{mark_other, differ}
use Rattle.magnetron.proofs.Stays.{prepare_keeps}
use Rattle.engine.specs.Run.{Plan, World, outs_at, shape_in, played_at, staged, put_played, judged, ended, rendered, Given, After, after_by, plan_of, world_of, run_of}
use Rattle.engine.proofs.Along.{writes_marks}
use Rattle.laws.specs.Nested.{nested_in, outer_pools, writes}
use Rattle.laws.proofs.Refusals.{refused_unchanged}
use Rattle.laws.proofs.TwoOrders.{went, stopped}

-- ---- the marks along an order

gone : (l : List Bool) (k : ℕ) → get_or (set l k false) k false ≡ false
gone [] k = refl
gone (x ∷ l) zero = refl
gone (x ∷ l) (suc k) = gone l k

-- once a buffer is written it is not stale, and any other is as stale as before
stale-cleared : (b c : BufferIndex) (m : Marks) → stale_at b (cleared c m) ≡ (stale_at b m && not (same_buffer b c))
stale-cleared b c m = go (same_buffer b c) refl
  where
    itself : (b c : BufferIndex) → same_buffer b c ≡ true → stale_at b (cleared c m) ≡ false
    itself (Internal i) (Internal j) e = rw (eqb-true i j e) (unfold stale_at cleared in gone m.internal j)
    itself (Internal i) (External j) e = absurd (true≢false (sym e))
    itself (External i) (Internal j) e = absurd (true≢false (sym e))
    itself (External i) (External j) e = rw (eqb-true i j e) (unfold stale_at cleared in gone m.external j)

    go : (t : Bool) → same_buffer b c ≡ t → stale_at b (cleared c m) ≡ (stale_at b m && not t)
    go true e = itself b c e ∙ sym (and-false (stale_at b m))
    go false e = mark_other b c m (differ b c e) ∙ sym (and-true (stale_at b m))

both_not : (s t u : Bool) → ((s && not t) && not u) ≡ (s && not (t || u))
both_not s true u = ap (λ (x : Bool). x && not u) (and-false s) ∙ sym (and-false s)
both_not s false u = ap (λ (x : Bool). x && not u) (and-true s)

stale-among : (b : BufferIndex) (cs : List BufferIndex) (m : Marks) → stale_at b (runs cleared cs m) ≡ (stale_at b m && not (hits b cs))
stale-among b [] m = sym (and-true (stale_at b m))
stale-among b (c ∷ cs) m =
    stale-among b cs (cleared c m) ∙ ap (λ (x : Bool). x && not (hits b cs)) (stale-cleared b c m) ∙ both_not (stale_at b m) (same_buffer b c) (hits b cs)

module _ (P : Plan) where
  -- what a stage's turn leaves of a mark
  stale-staged : (b : BufferIndex) (k : ℕ) (w : World) → stale_at b (marks_of (staged P k w).banks) ≡ (stale_at b (marks_of w.banks) && not (hits b (outs_at P k)))
  unfolding staged put_played
  stale-staged b k w = rw (writes_marks (shape_in P) (outs_at P k) (played_at P k w).outs w.banks) (stale-among b (outs_at P k) (marks_of w.banks))

  stale-after : (b : BufferIndex) (ks : List ℕ) (w : World) → stale_at b (marks_of (runs (staged P) ks w).banks) ≡ (stale_at b (marks_of w.banks) && not (writes P ks b))
  stale-after b [] w = sym (and-true (stale_at b (marks_of w.banks)))
  stale-after b (k ∷ ks) w =
      stale-after b ks (staged P k w)
      ∙ ap (λ (x : Bool). x && not (writes P ks b)) (stale-staged b k w)
      ∙ both_not (stale_at b (marks_of w.banks)) (hits b (outs_at P k)) (writes P ks b)

-- ---- the theorem

module _ (outer : Pools) (g : Given) where
  abbrev nested : Given
  nested = nested_in outer g

  abbrev whole : Lent
  whole = lent nested.pools g.internal g.external g.zeros g.samples

  pub inner_prepare : outer_pools outer (prepared_of whole).pools ≡ outer
  inner_prepare = ap (λ (p : Pool). record { internal = p; external = outer.external; reset = outer.reset }) (prepare_keeps whole)

  module _ (order : List ℕ) where
    abbrev plan : Plan
    plan = plan_of nested

    abbrev world : World
    world = world_of nested

    abbrev run : After
    run = run_of nested order

    abbrev handed : Pools
    handed = outer_pools outer run.ran.pools

    went_through : (told_of run.ran.answer).number ≡ 0 → passed (judged plan g.zeros order world) ≡ true
    unfolding run_of
    went_through e = go (passed (judged plan g.zeros order world)) refl
      where
        go : (t : Bool) → passed (judged plan g.zeros order world) ≡ t → t ≡ true
        go true q = refl
        go false q = absurd (stopped plan g.zeros order world q e)

    pub inner_run : (told_of run.ran.answer).number ≡ 0 → (k : ℕ) → stale_at (Internal k) (marks_in handed) ≡ (stale_at (Internal k) (marks_in outer) && not (writes plan order (External k)))
    unfolding run_of
    inner_run e k =
        ap (λ (l : After). stale_at (Internal k) (marks_in (outer_pools outer l.ran.pools))) (went plan g.zeros order world (went_through e))
        ∙ (unfold ended after_by stale_at in stale-after plan (External k) order world)

    pub inner_run_else : handed ≡ record { internal = marked outer.internal run.ran.pools.external.stale; external = outer.external; reset = outer.reset }
    unfolding run_of rendered
    inner_run_else = go (judged plan g.zeros order world)
      where
        go : (o : Option Refusal)
            → outer_pools outer (after_by plan world (ended plan order world o)).ran.pools
            ≡ record { internal = marked outer.internal (after_by plan world (ended plan order world o)).ran.pools.external.stale; external = outer.external; reset = outer.reset }
        go none = unfold ended after_by in refl
        go (some v) = unfold ended after_by in refl

    pub inner_refused : (told_of run.ran.answer).number ≢ 0 → handed ≡ outer
    inner_refused r = ap (λ (l : After). outer_pools outer l.ran.pools) (refused_unchanged nested order r).0
