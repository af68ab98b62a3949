-- DEMAND 3: WHICH ORDERS OF STAGES END THE SAME.
--
-- What it says. Take any patch, pools, states, window, lent slices and values, all that a run is given, and two orders of the same stage numbers, each number once.
-- Two stages of the patch are tied where one of them writes a buffer that the other reads or writes (`specs/Tied.antt`). If every two tied stages
-- stand in the same sequence in both orders, then both runs are refused, or both have the same outcome, whole: the answer with its activity, the
-- pools with their marks, the states, what the string of each stage tells, the samples of both pools, and the rings. A run is `run_of`, the definition that the contract of `run` cites.
-- A number that names no stage is tied to none, so that where it stands is no premise (`no_stages`): an order that holds one is refused.
--
-- What it does not say. Nothing of orders in which two tied stages change places: they can end differently, as case 12 of the listed cases
-- does (`CannotBeDropped.antt`). Nothing of an order that leaves a stage out, or has one more. And where both runs are refused the refusals
-- may differ: each names the first fault along its own order.
-- Assumes nothing.
use mathlib.Core.Path.{◌≡◌}
use mathlib.Core.Bool.{true}
use mathlib.Core.Logic.{◌≢◌, ◌⊎◌, ◌↔◌}
use mathlib.Core.List.{List}
use Prim.Native.Nat.{ℕ, ◌<◌, ◌≤◌}
use native.Mathlib.Omega.{arith}
use Rattle.order.specs.Order.{Among, Once, SameOrder}
use Rattle.order.proofs.Trace.{before_first}
use Rattle.answers.specs.Refusal.{told_of}
use Rattle.engine.specs.Run.{Given, plan_of, world_of, run_of}
use Rattle.laws.specs.Tied.{tied}
use Rattle.laws.proofs.Commute.{tied-there}
use Rattle.laws.proofs.TwoOrders.{same_after}

module _ (g : Given) where
  abbrev Refused : List ℕ → Type 0
  Refused order = (told_of (run_of g order).ran.answer).number ≢ 0

  pub safe_orders : (xs ys : List ℕ) → SameOrder (tied (plan_of g)) xs ys → (Refused xs × Refused ys) ⊎ (run_of g xs ≡ run_of g ys)
  unfolding run_of
  safe_orders xs ys h = same_after (plan_of g) xs ys h g.zeros (world_of g)

  -- orders that name no stage of the patch, such as 0, 1 and 1, 0 where the patch has none, are never out of sequence
  pub no_stages : (xs ys : List ℕ) → Once xs → Once ys → ((k : ℕ) → Among k xs ↔ Among k ys) → ((k : ℕ) → Among k xs → g.patch.count ≤ k) → SameOrder (tied (plan_of g)) xs ys
  no_stages xs ys once_left once_right members none-there = record {
    once_left = once_left;
    once_right = once_right;
    members = members;
    sequence = λ j k e. (λ h. absurd (beside j k e (before_first j k xs h)), λ h. absurd (beside j k e ((members j).1 (before_first j k ys h))));
  }
    where
      beside : (j k : ℕ) → tied (plan_of g) j k ≡ true → Among j xs → ⊥
      beside j k e m = let there : j < g.patch.count = (tied-there (plan_of g) j k e).0 in omega (arith, none-there j m)
