-- What two orders of the same stages leave, where every two tied stages stand in the same sequence in both. Each part is the trace law of the
-- crate `order`, or one of its consequences.
--     same_judged       the checks pass for both, or for neither
--     same_ended        where they pass: activity, what strings tell, buffers, states and rings
--     same_after         both together
-- Assumes nothing.
use mathlib.Core.Path.{◌≡◌, refl, sym, ap, ◌∙◌}
use mathlib.Core.Logic.{◌≢◌, ◌⊎◌, inl, inr, ⊎_elim}
use mathlib.Core.Bool.{Bool, true, false, ◌&&◌, ◌||◌, true≢false, false≢true, and_assoc, and_comm, or-true}
use mathlib.Core.List.{List, [], ◌∷◌}
use mathlib.Core.Option.{Option, none, some}
use Prim.Native.Nat.{ℕ, suc, ◌+◌, ◌<◌}
use native.Mathlib.Omega.{arith}
use lib.Dec.{eqb, ltb}
use lib.ListN.{length}
use lib.Ieee.{Float}
use borrow.Author.Tests.{eqb-true, eq-eqb, ltb-true}
use Rattle.order.specs.Order.{Among, Once, SameOrder, runs}
use Rattle.order.specs.Checks.{passed, verdict}
use Rattle.order.proofs.Trace.{trace}
use Rattle.order.proofs.Checks.{shuffle, passed_first, same_verdict}
use Rattle.answers.specs.Activity.{greater_of}
use Rattle.std.specs.Prelude.{None}
use Rattle.answers.specs.Refusal.{told_of}
use Rattle.answers.specs.declared.refusal.Reason.{Reason}
use Rattle.answers.specs.declared.refusal.Refusal.{Refusal}
use Rattle.answers.proofs.Verdicts.{numbered}
use Rattle.answers.specs.declared.activity.StageActivity.{StageActivity}
use Rattle.answers.specs.declared.activity.StageActivity.TheVariants.{Exhausted}
use Rattle.answers.proofs.Tests.{and_left, and_right, or_cases}
use Rattle.answers.proofs.Greatest.{greater_comm, greater_assoc}
use Rattle.magnetron.specs.Buffers.{marks_of, activity_of, louder_by}
use Rattle.magnetron.specs.declared.buffer.Marks.{Marks}
use Rattle.magnetron.proofs.Writes.{folds_swap}
use Rattle.magnetron.proofs.Told.{fits}
use Rattle.magnetron.proofs.Windows.{tab_ext}
use Rattle.engine.specs.Run.{Plan, World, outs_at, staged, louder, told_at, reaches, all_below, holds, repeats, orderly, entry, named, fault, turned, judged, ended, rendered, After, after_by}
use Rattle.engine.specs.Inside.{Admitted}
use Rattle.engine.proofs.Entries.{entry-told}
use Rattle.engine.proofs.Faults.{passed-named}
use Rattle.engine.proofs.Judged.{passed_all}
use Rattle.engine.proofs.Ends.{after-done}
use Rattle.laws.specs.Tied.{tied}
use Rattle.laws.proofs.Commute.{untied, tied_even, staged_swap, fault_same, turn_swap}

-- ---- check 3 along an order in which each stands once

holds-among : (k : ℕ) (ks : List ℕ) → holds k ks ≡ true → Among k ks
holds-among k [] h = absurd (false≢true h)
holds-among k (x ∷ xs) h = ⊎_elim (λ e. inl (eqb-true k x e)) (λ e. inr (holds-among k xs e)) (or_cases (eqb k x) (holds k xs) h)

among-holds : (k : ℕ) (ks : List ℕ) → Among k ks → holds k ks ≡ true
among-holds k [] m = absurd m
among-holds k (x ∷ xs) (inl e) = rw (eq-eqb k x e)
among-holds k (x ∷ xs) (inr m) = rw (among-holds k xs m, or-true (eqb k x))

once_repeats : (ks : List ℕ) → Once ks → repeats ks ≡ false
once_repeats [] o = refl
once_repeats (k ∷ ks) o = go (holds k ks) refl (once_repeats ks o.1)
  where
    go : (b : Bool) → holds k ks ≡ b → repeats ks ≡ false → (b || repeats ks) ≡ false
    go true e r = absurd (o.0 (holds-among k ks e))
    go false e r = r

-- how many they are, and whether all of them are there: folds that no sequence changes

runs-length : (ks : List ℕ) (n : ℕ) → runs (λ k. suc) ks n ≡ length ks + n
runs-length [] n = omega arith
runs-length (k ∷ ks) n = omega (arith, runs-length ks (suc n))

runs-below : (c : ℕ) (ks : List ℕ) (b : Bool) → runs (λ k b. b && ltb k c) ks b ≡ (b && all_below c ks)
runs-below c [] b = sym (and_comm b true)
runs-below c (k ∷ ks) b = runs-below c ks (b && ltb k c) ∙ and_assoc b (ltb k c) (all_below c ks)

-- every member of an order is a stage of the patch
abbrev Stages : Plan → List ℕ → Type 0
Stages P ks = (k : ℕ) → Among k ks → k < P.patch.count

stages-there : (P : Plan) (ks : List ℕ) → all_below P.patch.count ks ≡ true → Stages P ks
stages-there P [] e k m = absurd m
stages-there P (x ∷ xs) e k (inl q) = rw q (ltb-true x _ (and_left (ltb x P.patch.count) _ e))
stages-there P (x ∷ xs) e k (inr m) = stages-there P xs (and_right (ltb x P.patch.count) _ e) k m

-- two values go into a result in either sequence, where the operation is associative and commutative
swap_in : {S : Type 0} (op : S → S → S) → ((a b c : S) → op (op a b) c ≡ op a (op b c)) → ((a b : S) → op a b ≡ op b a) → (s a b : S) → op (op s a) b ≡ op (op s b) a
swap_in op assoc comm s a b = assoc s a b ∙ ap (op s) (comm a b) ∙ sym (assoc s b a)

-- ---- a run along one order

module _ (P : Plan) (zeros : List Float) (ks : List ℕ) (w : World) where
  abbrev leaves : After
  leaves = after_by P w (rendered P zeros ks w)

  abbrev Refused : Type 0
  Refused = (told_of leaves.ran.answer).number ≢ 0

  pub went : passed (judged P zeros ks w) ≡ true → leaves ≡ after_by P w (ended P ks w none)
  unfolding ended
  went e = sym (after-done P zeros ks w e)

  pub stopped : passed (judged P zeros ks w) ≡ false → Refused
  unfolding rendered ended after_by
  stopped = go (judged P zeros ks w)
    where
      go : (o : Option Refusal) → passed o ≡ false → (told_of (after_by P w (ended P ks w o)).ran.answer).number ≢ 0
      go none f n = true≢false f
      go (some r) f n = numbered r.reason n

-- ---- along two

module _ (P : Plan) (xs ys : List ℕ) (h : SameOrder (tied P) xs ys) where
  same_length : length xs ≡ length ys
  same_length = omega (arith, runs-length xs 0, runs-length ys 0, shuffle {A = ℕ} (λ k. suc) (λ a b s. refl) (tied P) xs ys h 0)

  same_members : (k : ℕ) → holds k xs ≡ holds k ys
  same_members k = go (holds k xs) (holds k ys) refl refl
    where
      go : (b c : Bool) → holds k xs ≡ b → holds k ys ≡ c → b ≡ c
      go true c e f = sym (among-holds k ys ((h.members k).0 (holds-among k xs e))) ∙ f
      go false true e f = sym e ∙ among-holds k xs ((h.members k).1 (holds-among k ys f))
      go false false e f = refl

  same_stages : (c : ℕ) → all_below c xs ≡ all_below c ys
  same_stages c =
      sym (runs-below c xs true)
      ∙ shuffle (λ k b. b && ltb k c) (λ a b s. swap_in ◌&&◌ and_assoc and_comm s (ltb b c) (ltb a c)) (tied P) xs ys h true
      ∙ runs-below c ys true

  same_entry : (zeros : List Float) (w : World) → entry P zeros xs w ≡ entry P zeros ys w
  unfolding entry orderly
  same_entry zeros w = rw (same_length, same_stages, once_repeats xs h.once_left, once_repeats ys h.once_right)

  -- the checks along the order, where check 3 has found every stage there
  same_along : Stages P xs → (m : Marks) → passed (verdict (fault P) (turned P) xs m) ≡ passed (verdict (fault P) (turned P) ys m)
  same_along there m =
      same_verdict (fault P) (turned P) (tied P) (tied_even P) (λ k. k < P.patch.count)
      (λ a b a-there b_there d e m. fault_same P a b (untied P a b a-there b_there e) m) (λ a b a-there b_there d e m. turn_swap P a b (untied P a b a-there b_there e) m) xs ys h there m

  pub same_judged : (zeros : List Float) (w : World) → passed (judged P zeros xs w) ≡ passed (judged P zeros ys w)
  unfolding judged
  same_judged zeros w =
      passed_first (named None (entry P zeros xs w)) (verdict (fault P) (turned P) xs (marks_of w.banks))
      ∙ go (passed (entry P zeros xs w)) refl
      ∙ ap (λ (o : Option Reason). passed (named None o) && passed (verdict (fault P) (turned P) ys (marks_of w.banks))) (same_entry zeros w)
      ∙ sym (passed_first (named None (entry P zeros ys w)) (verdict (fault P) (turned P) ys (marks_of w.banks)))
    where
      go : (b : Bool) → passed (entry P zeros xs w) ≡ b
          → (passed (named None (entry P zeros xs w)) && passed (verdict (fault P) (turned P) xs (marks_of w.banks)))
          ≡ (passed (named None (entry P zeros xs w)) && passed (verdict (fault P) (turned P) ys (marks_of w.banks)))
      go true e = ap (λ (b : Bool). passed (named None (entry P zeros xs w)) && b) (same_along (stages-there P xs (entry-told P zeros xs w e).below) (marks_of w.banks))
      go false e = rw (passed-named None (entry P zeros xs w), e)

  same_activity : runs (louder P) xs Exhausted ≡ runs (louder P) ys Exhausted
  unfolding louder
  same_activity = shuffle (louder P) swap (tied P) xs ys h Exhausted
    where
      swap : (a b : ℕ) (s : StageActivity) → louder P a (louder P b s) ≡ louder P b (louder P a s)
      swap a b s =
          folds_swap louder_by (outs_at P a) (outs_at P b)
          (λ c d m n t. swap_in greater_of greater_assoc greater_comm t (activity_of d) (activity_of c)) s

  same_reaches : reaches P xs ≡ reaches P ys
  unfolding reaches told_at
  same_reaches = tab_ext 32 _ _ (λ k b. rw (same_members k))

  module _ (zeros : List Float) (w : World) (e : passed (judged P zeros xs w) ≡ true) where
    same_world : runs (staged P) xs w ≡ runs (staged P) ys w
    same_world =
        let entered : Admitted P xs w = (passed_all P zeros xs w e).admitted in
        trace (staged P) (λ (v : World). Unit {0}) (λ a v u. tt) (tied P) (λ k. k < P.patch.count)
        (λ a b a-there b_there d f v u. staged_swap P (fits P.pools _ _ _ entered.pools) a b d (untied P a b a-there b_there f) v) xs ys h
        (stages-there P xs entered.below) w tt

    pub same_ended : ended P xs w none ≡ ended P ys w none
    unfolding ended
    same_ended = rw (same_activity, same_reaches, same_world)

  -- both are refused, or both leave the same
  pub same_after : (zeros : List Float) (w : World)
      → (Refused P zeros xs w × Refused P zeros ys w) ⊎ (leaves P zeros xs w ≡ leaves P zeros ys w)
  same_after zeros w = go (passed (judged P zeros xs w)) refl (sym (same_judged zeros w))
    where
      go : (b : Bool) → passed (judged P zeros xs w) ≡ b → passed (judged P zeros ys w) ≡ passed (judged P zeros xs w)
          → (Refused P zeros xs w × Refused P zeros ys w) ⊎ (leaves P zeros xs w ≡ leaves P zeros ys w)
      go true e f = inr (went P zeros xs w e ∙ ap (after_by P w) (same_ended zeros w e) ∙ sym (went P zeros ys w (f ∙ e)))
      go false e f = inl (stopped P zeros xs w e, stopped P zeros ys w (f ∙ e))
