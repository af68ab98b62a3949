-- Checks that come one after the other, and the verdict that the code hands on.
--     unless-passed, first-passed     what it tells that checks passed
--     numbered                        no refusal has the number 0, which says that a call is done
--     accepted, rejected              what a verdict tells of its check
--     stopped, went_on                the verdict of a check and of what comes after it
-- Assumes nothing.
use mathlib.Core.Path.{◌≡◌, refl, ap}
use mathlib.Core.Logic.{◌≢◌}
use mathlib.Core.Bool.{Bool, true, false, false≢true, true≢false}
use mathlib.Core.Option.{Option, none, some}
use native.Mathlib.Omega.{arith}
use Rattle.std.specs.Prelude.{Ok, Err, is_ok}
use Rattle.order.specs.Checks.{unless, first, passed}
use Rattle.answers.specs.Refusal.{number_of, verdict_of}
use Rattle.answers.specs.declared.refusal.Reason.{Reason}
use Rattle.answers.specs.declared.refusal.Reason.TheVariants.{Bounds, Window, Order, Ring, Buffer, Parameter, Clash, Outputs}
use Rattle.answers.specs.declared.refusal.Refusal.{Refusal}

module _ {R : Type 0} where
  pub unless-passed : (b : Bool) (r : R) → passed (unless b r) ≡ true → b ≡ true
  unless-passed true r e = refl
  unless-passed false r e = e

  pub first-passed : (o p : Option R) → passed (first o p) ≡ true → (passed o ≡ true) × (passed p ≡ true)
  first-passed none p e = (refl, e)
  first-passed (some r) p e = absurd (false≢true e)

pub numbered : (r : Reason) → number_of r ≢ 0
numbered Bounds e = omega (arith, e)
numbered Window e = omega (arith, e)
numbered Order e = omega (arith, e)
numbered Ring e = omega (arith, e)
numbered Buffer e = omega (arith, e)
numbered Parameter e = omega (arith, e)
numbered Clash e = omega (arith, e)
numbered Outputs e = omega (arith, e)

-- the verdict of a check that was done, and of one that was not
pub accepted : (o : Option Reason) → verdict_of o ≡ Ok tt → passed o ≡ true
unfolding verdict_of
accepted none e = refl
accepted (some r) e = absurd (false≢true (ap is_ok e))

pub rejected : (o : Option Reason) (r : Refusal) → verdict_of o ≡ Err r → passed o ≡ false
unfolding verdict_of
rejected none r e = absurd (true≢false (ap is_ok e))
rejected (some q) r e = refl

pub stopped : (o p : Option Reason) (r : Refusal) → verdict_of o ≡ Err r → verdict_of (first o p) ≡ Err r
unfolding verdict_of
stopped none p r e = absurd (true≢false (ap is_ok e))
stopped (some q) p r e = e

pub went_on : (o p : Option Reason) → verdict_of o ≡ Ok tt → verdict_of (first o p) ≡ verdict_of p
unfolding verdict_of
went_on none p e = refl
went_on (some r) p e = absurd (false≢true (ap is_ok e))
