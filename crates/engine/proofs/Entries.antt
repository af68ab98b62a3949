-- Checks 1 to 4, as the code makes them and as facts.
--     too_many, prepare_stops, order_stops, then_rings     the verdict at each way out
--     entry-told          what it tells that they passed
-- Assumes nothing.
use mathlib.Core.Path.{◌≡◌, refl, sym, ap, ◌∙◌}
use mathlib.Core.Bool.{Bool, true, false, ◌&&◌, and-true, and-false}
use mathlib.Core.List.{List}
use mathlib.Core.Option.{Option, some}
use Prim.Native.Nat.{ℕ, ◌<◌, ◌≤◌}
use lib.Dec.{leb}
use lib.ListN.{length}
use lib.Ieee.{Float}
use borrow.Author.Tests.{lt-leb, le-leb, leb-true}
use Rattle.order.specs.Checks.{unless, first, passed}
use Rattle.answers.specs.Refusal.{verdict_of}
use Rattle.std.specs.Prelude.{Ok, Err}
use Rattle.answers.specs.declared.refusal.Refusal.{Refusal}
use Rattle.answers.specs.declared.refusal.Reason.{Reason}
use Rattle.answers.specs.declared.refusal.Reason.TheVariants.{Bounds, Window, Order, Ring}
use Rattle.answers.proofs.Tests.{and_left, and_right}
use Rattle.answers.proofs.Verdicts.{unless-passed, first-passed, stopped, went_on}
use Rattle.magnetron.specs.Checks.{window_ok}
use Rattle.magnetron.specs.Single.{Lent, lent, lent_ok, prepare_fault}
use Rattle.magnetron.proofs.Told.{held}
use Rattle.stages.specs.Rings.{all_to, fine_in, rings_ok}
use Rattle.stages.proofs.EndToEnd.{all_at}
use Rattle.engine.specs.Run.{Plan, World, orderly, entry}
use Rattle.engine.specs.Inside.{Admitted}
use Rattle.engine.proofs.Lists.{orderly-told}

first_assoc : (b : Bool) (r : Reason) (x y : Option Reason) → first (unless b r) (first x y) ≡ first (first (unless b r) x) y
first_assoc true r x y = refl
first_assoc false r x y = refl

module _ (P : Plan) (zeros : List Float) (ks : List ℕ) (w : World) where
  abbrev whole : Lent
  whole = lent P.pools w.banks.internal.samples w.banks.external.samples zeros P.window.buffer_len

  abbrev sized : Bool
  sized = lent_ok whole && leb P.patch.count 32

  abbrev short : Bool
  short = window_ok P.pools P.window.buffer_len

  abbrev listed : Bool
  listed = orderly P.patch.count ks

  abbrev ringed : Bool
  ringed = rings_ok P.patch w.states (length w.rings)

  abbrev later : Option Reason
  later = first (unless listed Order) (unless ringed Ring)

  entry_is : P.patch.count ≤ 32 → first (prepare_fault whole) later ≡ entry P zeros ks w
  unfolding entry prepare_fault
  entry_is h = rw (le-leb P.patch.count 32 h, and-true (lent_ok whole)) (sym (first_assoc (lent_ok whole) Bounds (unless short Window) later))

  pub too_many : 32 < P.patch.count → verdict_of (some Bounds) ≡ verdict_of (entry P zeros ks w)
  unfolding entry
  too_many h = rw (lt-leb P.patch.count 32 h, and-false (lent_ok whole)) refl

  module _ (few : P.patch.count ≤ 32) where
    pub prepare_stops : {r : Refusal} → Err r ≡ verdict_of (prepare_fault whole) → Err r ≡ verdict_of (entry P zeros ks w)
    prepare_stops {r} e = sym (stopped (prepare_fault whole) later r (sym e)) ∙ ap verdict_of (entry_is few)

    module _ (e : Ok tt ≡ verdict_of (prepare_fault whole)) where
      after_prepare : verdict_of later ≡ verdict_of (entry P zeros ks w)
      after_prepare = sym (went_on (prepare_fault whole) later (sym e)) ∙ ap verdict_of (entry_is few)

      pub order_stops : {r : Refusal} → Err r ≡ verdict_of (unless listed Order) → Err r ≡ verdict_of (entry P zeros ks w)
      order_stops {r} f = sym (stopped (unless listed Order) (unless ringed Ring) r (sym f)) ∙ after_prepare

      pub then_rings : Ok tt ≡ verdict_of (unless listed Order) → verdict_of (unless ringed Ring) ≡ verdict_of (entry P zeros ks w)
      then_rings f = sym (went_on (unless listed Order) (unless ringed Ring) (sym f)) ∙ after_prepare

  pub entry-told : passed (entry P zeros ks w) ≡ true → Admitted P ks w
  unfolding entry rings_ok
  entry-told e =
      let a = first-passed (unless sized Bounds) (first (unless short Window) later) e in
      let b = first-passed (unless short Window) later a.1 in
      let c = first-passed (unless listed Order) (unless ringed Ring) b.1 in
      let one = unless-passed sized Bounds a.0 in
      let order = orderly-told P.patch.count ks (unless-passed listed Order c.0) in
      let rings = unless-passed ringed Ring c.1 in
      record {
        pools = held P.pools _ _ _ zeros (and_left _ _ one) (unless-passed short Window b.0);
        few = leb-true _ _ (and_right (lent_ok whole) _ one);
        short = order.0;
        below = order.1;
        fine = all_at (fine_in P.patch w.states) P.patch.count (and_left _ _ rings);
        roomy = leb-true _ _ (and_right (all_to P.patch.count (fine_in P.patch w.states)) _ rings);
      }
