-- What strings tell along the order: a store at the number of each stage, all within at first, leaves the definition's answer for each stage number.
-- Assumes nothing.
use mathlib.Core.Path.{◌≡◌, refl, sym, ap, ◌∙◌}
use mathlib.Core.Bool.{Bool, true, false, ◌||◌, cond}
use mathlib.Core.List.{List, [], ◌∷◌}
use Prim.Native.Nat.{ℕ, ◌<◌}
use native.Mathlib.Nat.{zero-add}
use native.Mathlib.Omega.{arith}
use lib.Dec.{eqb}
use lib.ListN.{length, get_or, set, length-set}
use lib.Seq.{take_all, get_or-set_same, get_or-set_other}
use borrow.Author.Tests.{eqb-true, eqb-false}
use Rattle.util.specs.declared.reach.Reach.{Reach}
use Rattle.util.specs.declared.reach.Reach.TheVariants.{Within}
use Rattle.order.specs.Order.{runs}
use Rattle.magnetron.specs.Signals.{tab}
use Rattle.magnetron.proofs.Bridge.{part_tab, replicate-tab}
use Rattle.magnetron.proofs.Windows.{tab-length, tab-at, tab_ext}
use Rattle.stages.specs.Reach.{all_within}
use Rattle.engine.specs.Run.{Plan, stage_at, holds, told_of, told_at, reaches}

module _ {A : Type 0} where
  -- a store into a table is another table
  set-tab : (n : ℕ) (g : ℕ → A) (k : ℕ) (y : A) → set (tab n g) k y ≡ tab n (λ i. cond (eqb i k) y (g i))
  set-tab n g k y =
      let long : length (set (tab n g) k y) ≡ n = length-set (tab n g) k y ∙ tab-length n g in
      sym (take_all n (set (tab n g) k y) (omega (arith, long)))
      ∙ part_tab (set (tab n g) k y) 0 n y (omega (arith, long))
      ∙ tab_ext n _ _ (λ i h. rw (zero-add i) (at i h (eqb i k) refl))
    where
      at : (i : ℕ) → i < n → (b : Bool) → eqb i k ≡ b → get_or (set (tab n g) k y) i y ≡ cond b y (g i)
      at i h true e = rw (eqb-true i k e) (get_or-set_same (tab n g) k y y (omega (arith, h, tab-length n g, eqb-true i k e)))
      at i h false e = get_or-set_other (tab n g) k i y y (eqb-false i k e) ∙ tab-at n g i y h

  -- and so are all of them along a list of places, where what is stored depends on the place alone
  sets-tab : (f : ℕ → A) (n : ℕ) (ks : List ℕ) (g : ℕ → A) → runs (λ k l. set l k (f k)) ks (tab n g) ≡ tab n (λ i. cond (holds i ks) (f i) (g i))
  sets-tab f n [] g = refl
  sets-tab f n (k ∷ ks) g =
      ap (runs (λ k l. set l k (f k)) ks) (set-tab n g k (f k))
      ∙ sets-tab f n ks (λ i. cond (eqb i k) (f k) (g i))
      ∙ tab_ext n _ _ (λ i h. either i (eqb i k) (holds i ks) refl)
    where
      either : (i : ℕ) (here later : Bool) → eqb i k ≡ here → cond later (f i) (cond here (f k) (g i)) ≡ cond (here || later) (f i) (g i)
      either i true true e = refl
      either i true false e = ap f (sym (eqb-true i k e))
      either i false later e = refl

module _ (P : Plan) where
  abbrev pub telling : ℕ → List Reach → List Reach
  telling k l = set l k (told_of P.window P.values (stage_at P k))

  pub told_all : (ks : List ℕ) → runs telling ks all_within.stages ≡ reaches P ks
  unfolding reaches told_at
  told_all ks =
      ap (runs telling ks) (replicate-tab 32 Within)
      ∙ sets-tab (λ k. told_of P.window P.values (stage_at P k)) 32 ks (λ i. Within)
