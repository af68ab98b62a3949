-- The two ends of a run: refused, and done.
-- Assumes nothing.
use mathlib.Core.Path.{◌≡◌, refl, sym, ap}
use mathlib.Core.Bool.{true, false≢true}
use mathlib.Core.List.{List}
use mathlib.Core.Option.{Option, none, some}
use Prim.Native.Nat.{ℕ}
use lib.Ieee.{Float}
use Rattle.std.specs.Prelude.{Err}
use Rattle.order.specs.Order.{runs}
use Rattle.order.specs.Checks.{passed}
use Rattle.answers.specs.declared.refusal.Refusal.{Refusal}
use Rattle.answers.specs.declared.activity.StageActivity.TheVariants.{Exhausted}
use Rattle.engine.specs.Run.{Plan, World, refused, done, staged, louder, reaches, judged, ended, rendered, after_by}
use Rattle.engine.specs.Inside.{returned}
use Rattle.engine.proofs.Judged.{judged-refused}

is_none : (o : Option Refusal) → passed o ≡ true → o ≡ none
is_none none e = refl
is_none (some r) e = absurd (false≢true e)

module _ (P : Plan) (zeros : List Float) (ks : List ℕ) (w : World) where
  pub after-refused : (r : Refusal) → Err r ≡ returned (judged P zeros ks w) → after_by P w (refused r) ≡ after_by P w (rendered P zeros ks w)
  unfolding rendered ended
  after-refused r e = sym (ap (λ (o : Option Refusal). after_by P w (ended P ks w o)) (judged-refused P zeros ks w e))

  pub after-done : passed (judged P zeros ks w) ≡ true → after_by P w (done (runs (louder P) ks Exhausted) (reaches P ks) (runs (staged P) ks w)) ≡ after_by P w (rendered P zeros ks w)
  unfolding rendered ended
  after-done e = sym (ap (λ (o : Option Refusal). after_by P w (ended P ks w o)) (is_none (judged P zeros ks w) e))
