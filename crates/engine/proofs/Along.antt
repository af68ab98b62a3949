-- The loop along the order, once the checks have passed. What the checks established of the order holds of the rest of it after each step
-- of the definition, so the loop repeats no check.
--     stage-there, ring-lies, ready     a stage whose turn it is: it is there, its ring lies in the rings, and it is ready
--     passed-staged     after its step the rest of the order has passed
--     stepped         what its turn leaves is a step of the definition
--     Along           the invariant: the rest has passed, and leads where the whole order does
-- Assumes nothing.
use mathlib.Core.Path.{◌≡◌, refl, sym, ap, ap₂, subst, ◌∙◌}
use mathlib.Core.Bool.{true}
use mathlib.Core.List.{List, [], ◌∷◌}
use Prim.Native.Nat.{ℕ, zero, suc, ◌+◌, ◌-◌, ◌<◌, ◌≤◌}
use native.Mathlib.Nat.{le_trans}
use native.Mathlib.Omega.{arith}
use lib.Dec.{ltb}
use lib.ListN.{length, get_or, set, take, drop, length-drop, length-set}
use lib.Seq.{sets, length-sets, take_all, length-take-le}
use Rattle.std.specs.Prelude.{Some}
use lib.Ieee.{Float}
use borrow.Author.Tests.{ltb-true}
use borrow.Rule.Slice.PartMut.{put_mid}
use Rattle.order.specs.Order.{runs}
use Rattle.order.specs.Checks.{passed, verdict}
use Rattle.answers.specs.declared.activity.StageActivity.{StageActivity}
use Rattle.answers.specs.declared.activity.StageActivity.TheVariants.{Exhausted}
use Rattle.answers.proofs.Tests.{and_left, and_right}
use Rattle.answers.proofs.Verdicts.{first-passed}
use Rattle.magnetron.specs.Buffers.{pick, Shape, Banks, Write, write, with_line_at, with_line, laid, pairs, marks_of, cleared, louder_by}
use Rattle.magnetron.specs.Pools.{banks_of}
use Rattle.magnetron.specs.Inside.Room.{Held}
use Rattle.magnetron.specs.declared.buffer.Marks.{Marks}
use Rattle.magnetron.specs.declared.buffer.BufferIndex.{BufferIndex}
use Rattle.magnetron.specs.declared.buffer.BufferIndex.TheVariants.{External, Internal}
use Rattle.magnetron.specs.declared.pool.Pools.{Pools}
use Rattle.magnetron.proofs.Writes.{unseen}
use Rattle.util.specs.declared.reach.Reach.{Reach}
use Rattle.stages.specs.declared.state.State.{State}
use Rattle.stages.specs.Stage.{Own, own, ring_fine}
use Rattle.stages.specs.Rings.{no_state, len_in, ring_at, fine_in}
use Rattle.stages.specs.Reach.{all_within}
use Rattle.stages.specs.Inside.{starts_of}
use Rattle.stages.proofs.EndToEnd.{sum_step, starts_at, part_put}
use Rattle.stages.proofs.Positions.{position_stays}
use Rattle.engine.specs.Run.{Plan, World, stage_at, outs_at, shape_in, own_of, played_at, put_played, staged, louder, fault, turned, fault_of, told_of, reaches}
use Rattle.engine.specs.Inside.{world_with, Passed, Ready, Turned}
use Rattle.engine.proofs.Lists.{next_of, rest, last}
use Rattle.engine.proofs.Faults.{passed-named}
use Rattle.engine.proofs.Told.{telling, told_all}

-- ---- what a write leaves as it was

module _ (h : Shape) (b : Banks) where
  write_marks : (c : BufferIndex) (vs : List Float) → marks_of (write h (record { to = c; values = vs }) b) ≡ cleared c (marks_of b)
  unfolding write with_line_at with_line laid cleared
  write_marks (External k) vs = refl
  write_marks (Internal k) vs = refl

  write-internal : (c : BufferIndex) (vs : List Float) → length (write h (record { to = c; values = vs }) b).internal.samples ≡ length b.internal.samples
  unfolding write with_line_at with_line
  write-internal (External k) vs = refl
  write-internal (Internal k) vs = simp length-sets

  write-external : (c : BufferIndex) (vs : List Float) → length (write h (record { to = c; values = vs }) b).external.samples ≡ length b.external.samples
  unfolding write with_line_at with_line
  write-external (External k) vs = simp length-sets
  write-external (Internal k) vs = refl

-- the same of all writes of a stage
module _ (h : Shape) where
  pub writes_marks : (os : List BufferIndex) (vs : List (List Float)) (b : Banks) → marks_of (runs (write h) (pairs os vs) b) ≡ runs cleared os (marks_of b)
  writes_marks [] vs b = refl
  writes_marks (o ∷ os) [] b = writes_marks os [] _ ∙ ap (runs cleared os) (write_marks h b o [])
  writes_marks (o ∷ os) (v ∷ vs) b = writes_marks os vs _ ∙ ap (runs cleared os) (write_marks h b o v)

  writes-internal : (ws : List Write) (b : Banks) → length (runs (write h) ws b).internal.samples ≡ length b.internal.samples
  writes-internal ws b = unseen (write h) (λ (c : Banks). length c.internal.samples) ws (λ u k c. write-internal h c u.to u.values) b

  writes-external : (ws : List Write) (b : Banks) → length (runs (write h) ws b).external.samples ≡ length b.external.samples
  writes-external ws b = unseen (write h) (λ (c : Banks). length c.external.samples) ws (λ u k c. write-external h c u.to u.values) b

-- an element after a store is the new one, at its place, or the old one
pub set_at_or : {A : Type 0} (C : ℕ → A → Type 0) (l : List A) (k i : ℕ) (y d : A) → ((i ≡ k) → C i y) → C i (get_or l i d) → C i (get_or (set l k y) i d)
set_at_or C [] k i y d a b = b
set_at_or C (x ∷ l) zero zero y d a b = a refl
set_at_or C (x ∷ l) zero (suc i) y d a b = b
set_at_or C (x ∷ l) (suc k) zero y d a b = b
set_at_or C (x ∷ l) (suc k) (suc i) y d a b = set_at_or (λ (m : ℕ). C (suc m)) l k i y d (λ e. a (ap suc e)) b

-- the pools by an output's side
pub held-sided : (p : Pools) (o : BufferIndex) (internal external : List Float) (n : ℕ) → Held p (length internal) (length external) n
    → Held p (pick o (length (pick o internal external)) (length (pick o external internal))) (pick o (length (pick o external internal)) (length (pick o internal external))) n
held-sided p (External k) internal external n h = h
held-sided p (Internal k) internal external n h = h

pub held_whole : (p : Pools) (o : BufferIndex) (internal external : List Float) (n : ℕ)
    → Held p (pick o (length (pick o internal external)) (length (pick o external internal))) (pick o (length (pick o external internal)) (length (pick o internal external))) n
    → Held p (length internal) (length external) n
held_whole p (External k) internal external n h = h
held_whole p (Internal k) internal external n h = h

-- ---- a stage whose turn it is

module _ {P : Plan} {k : ℕ} {ks : List ℕ} {w : World} (ok : Passed P (k ∷ ks) w) where
  pub stage-there : k < P.patch.count
  stage-there = ltb-true _ _ (and_left (ltb k P.patch.count) _ ok.admitted.below)

  pub started : {starts : List ℕ} → starts ≡ starts_of P.patch → get_or starts k 0 ≡ ring_at P.patch k
  started e = rw e (starts_at P.patch k stage-there)

  pub ring-lies : ring_at P.patch k + len_in P.patch k ≤ length w.rings
  ring-lies = le_trans (sum_step (len_in P.patch) k P.patch.count stage-there) ok.admitted.roomy

  ring_long : length (own_of P k w).ring ≡ len_in P.patch k
  unfolding own_of
  ring_long = length-take-le (len_in P.patch k) (drop (ring_at P.patch k) w.rings) (omega (arith, ring-lies, length-drop (ring_at P.patch k) w.rings))

  fine_here : ring_fine (stage_at P k).kind (own_of P k w).state ≡ true
  unfolding own_of
  fine_here = ok.admitted.fine k stage-there

  turns : (passed (fault P k (marks_of w.banks)) ≡ true) × (passed (verdict (fault P) (turned P) ks (turned P k (marks_of w.banks))) ≡ true)
  turns = first-passed (fault P k (marks_of w.banks)) (verdict (fault P) (turned P) ks (turned P k (marks_of w.banks))) ok.sound

  pub ready : Ready P.pools P.window P.values (stage_at P k) (marks_of w.banks) (own_of P k w)
      (pick (stage_at P k).output w.banks.internal.samples w.banks.external.samples) (pick (stage_at P k).output w.banks.external.samples w.banks.internal.samples)
  unfolding fault
  ready = record {
    held = held-sided P.pools (stage_at P k).output _ _ _ ok.admitted.pools;
    sound = sym (passed-named (Some k) (fault_of P.pools P.window P.values (stage_at P k) (marks_of w.banks))) ∙ turns.0;
    fine = fine_here;
    long = ring_long;
  }

  fine-after : (i : ℕ) → i < P.patch.count → fine_in P.patch (staged P k w).states i ≡ true
  unfolding staged put_played
  fine-after i h =
      set_at_or (λ (j : ℕ) (s : State). ring_fine (stage_at P j).kind s ≡ true) w.states k i (played_at P k w).kept.state no_state
      (λ q. rw q (position_stays (stage_at P k).kind _ P.window (own_of P k w) _ _ fine_here ring_long)) (ok.admitted.fine i h)

  -- what the checks have established goes on to hold
  pub passed-staged : Passed P ks (staged P k w)
  unfolding staged put_played turned
  passed-staged = record {
    admitted = record {
      pools = rw (writes-internal (shape_in P) (pairs (outs_at P k) (played_at P k w).outs) w.banks, writes-external (shape_in P) (pairs (outs_at P k) (played_at P k w).outs) w.banks) ok.admitted.pools;
      few = ok.admitted.few;
      short = omega (arith, ok.admitted.short);
      below = and_right (ltb k P.patch.count) _ ok.admitted.below;
      fine = fine-after;
      roomy = rw length-sets ok.admitted.roomy;
    };
    sound = rw (writes_marks (shape_in P) (outs_at P k) (played_at P k w).outs w.banks) turns.1;
  }

  -- ---- the ring as the part that is lent from `at` on

  module _ (at len : ℕ) (e : at ≡ ring_at P.patch k) (f : len ≡ len_in P.patch k) where
    abbrev part : Own
    part = own (get_or w.states k no_state) (take (at + len - at) (drop at w.rings))

    part_own : part ≡ own_of P k w
    unfolding own_of
    part_own =
        let g : at + len - at ≡ len_in P.patch k = omega arith in
        rw (g, e) refl

    pub part_lies : at + len ≤ length w.rings
    part_lies = omega (arith, ring-lies)

    pub part_ready : Ready P.pools P.window P.values (stage_at P k) (marks_of w.banks) part
        (pick (stage_at P k).output w.banks.internal.samples w.banks.external.samples) (pick (stage_at P k).output w.banks.external.samples w.banks.internal.samples)
    part_ready = rw part_own ready

    -- what the turn leaves is a step of the definition
    pub stepped : {s : State} {m : Marks} {internal external : List Float} (ring : List Float) → length ring ≡ length part.ring → m ≡ runs cleared (outs_at P k) (marks_of w.banks)
        → Turned P.pools P.window P.values (stage_at P k) part w.banks (own s ring) (banks_of internal external (runs cleared (outs_at P k) (marks_of w.banks)))
        → world_with m (set w.states k s) internal external (put_mid at (at + len - at) w.rings ring) ≡ staged P k w
    unfolding staged put_played
    stepped {s} {m} {internal} {external} ring l em t =
        let long : length ring ≡ at + len - at = l ∙ length-take-le (at + len - at) (drop at w.rings) (omega (arith, part_lies, length-drop at w.rings)) in
        let u : Turned P.pools P.window P.values (stage_at P k) (own_of P k w) w.banks (own s ring) _ = rw part_own at t in
        let r : put_mid at (at + len - at) w.rings ring ≡ sets w.rings (ring_at P.patch k) (take (len_in P.patch k) (played_at P k w).kept.ring) =
        part_put w.rings ring at (at + len) (omega arith) part_lies long
        ∙ ap₂ (λ (m : ℕ) (v : List Float). sets w.rings m v) e
        (sym (take_all (len_in P.patch k) ring (omega arith)) ∙ ap (λ (o : Own). take (len_in P.patch k) o.ring) u.kept)
        in
        rw em λ i. record { banks = u.banks i; states = set w.states k (u.kept i).state; rings = r i }

-- ---- the loop

pub record Along (P : Plan) (ks : List ℕ) (w₀ w : World) (a : StageActivity) (t : List Reach) (j : ℕ) : Type 0 where
  pub still : Passed P (drop j ks) w
  pub world : runs (staged P) (drop j ks) w ≡ runs (staged P) ks w₀
  pub loud : runs (louder P) (drop j ks) a ≡ runs (louder P) ks Exhausted
  pub told : runs (telling P) (drop j ks) t ≡ runs (telling P) ks all_within.stages
  pub long : length t ≡ 32
  pub internal : length w.banks.internal.samples ≡ length w₀.banks.internal.samples
  pub external : length w.banks.external.samples ≡ length w₀.banks.external.samples
  pub rings : length w.rings ≡ length w₀.rings

module _ {P : Plan} {ks : List ℕ} {w₀ w : World} {a : StageActivity} {t : List Reach} {j : ℕ} (v : Along P ks w₀ w a t j) where
  pub along_here : j < length ks → Passed P (get_or ks j 0 ∷ drop (j + 1) ks) w
  along_here h = subst (λ (l : List ℕ). Passed P l w) (next_of ks j h) v.still

  pub along_more : (w' : World) (a' : StageActivity) (r : Reach) → j < length ks → w' ≡ staged P (get_or ks j 0) w → a' ≡ runs louder_by (outs_at P (get_or ks j 0)) a
      → r ≡ told_of P.window P.values (stage_at P (get_or ks j 0)) → Along P ks w₀ w' a' (set t (get_or ks j 0) r) (j + 1)
  unfolding staged put_played louder
  along_more w' a' r h e f g =
      rw (e, f, g)
      (record {
        still = passed-staged (along_here h);
        world = rest (λ (l : List ℕ). runs (staged P) l w) ks j v.world h;
        loud = rest (λ (l : List ℕ). runs (louder P) l a) ks j v.loud h;
        told = rest (λ (l : List ℕ). runs (telling P) l t) ks j v.told h;
        long = rw length-set v.long;
        internal = writes-internal (shape_in P) (pairs (outs_at P (get_or ks j 0)) (played_at P (get_or ks j 0) w).outs) w.banks ∙ v.internal;
        external = writes-external (shape_in P) (pairs (outs_at P (get_or ks j 0)) (played_at P (get_or ks j 0) w).outs) w.banks ∙ v.external;
        rings = rw length-sets v.rings;
      })

  pub along_end : length ks ≤ j → (w ≡ runs (staged P) ks w₀) × (a ≡ runs (louder P) ks Exhausted) × (t ≡ reaches P ks)
  along_end h = (
    last (λ (l : List ℕ). runs (staged P) l w) ks j v.world h,
    last (λ (l : List ℕ). runs (louder P) l a) ks j v.loud h,
    last (λ (l : List ℕ). runs (telling P) l t) ks j v.told h ∙ told_all P ks,
  )
