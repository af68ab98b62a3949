-- Loops along the order: what is still to come, `drop j ks`, at a turn and at the end.
-- Assumes nothing.
use mathlib.Core.Path.{◌≡◌, refl, sym, ap, ap₂, ◌∙◌}
use mathlib.Core.Bool.{Bool, true, false, ◌||◌, and-false}
use mathlib.Core.List.{List, [], ◌∷◌}
use Prim.Native.Nat.{ℕ, zero, suc, ◌+◌, ◌-◌, ◌<◌, ◌≤◌}
use native.Mathlib.Nat.{le_of_suc-le-suc}
use native.Mathlib.Numerals.{add-one}
use native.Mathlib.Omega.{arith}
use lib.Dec.{leb, ltb, eqb, eqb-zero-suc, eqb-suc-zero, eqb-suc-suc}
use Rattle.std.specs.List.{list_any}
use lib.ListN.{length, get_or, take, drop, length-drop}
use lib.Seq.{drop-cons, take_all}
use borrow.Author.Tests.{le-leb, leb-true, ltb-true}
use Rattle.answers.proofs.Tests.{and_left, and_right}
use Rattle.engine.specs.Run.{all_below, holds, repeats, orderly}

pub next_of : (l : List ℕ) (j : ℕ) → j < length l → drop j l ≡ get_or l j 0 ∷ drop (j + 1) l
next_of l j h = rw add-one (drop-cons l j 0 h)

end_of : (l : List ℕ) (j : ℕ) → length l ≤ j → drop j l ≡ []
end_of [] zero h = refl
end_of [] (suc j) h = refl
end_of (x ∷ l) zero h = absurd (omega arith)
end_of (x ∷ l) (suc j) h = end_of l j (le_of_suc-le-suc h)

-- what is still to come, as the part of the slice from there on
part_is : (l : List ℕ) (j : ℕ) → take (length l - (j + 1)) (drop (j + 1) l) ≡ drop (j + 1) l
part_is l j = take_all (length l - (j + 1)) (drop (j + 1) l) (omega (arith, length-drop (j + 1) l))

pub later_is : (k : ℕ) (l : List ℕ) (j : ℕ) {r : Bool} → r ≡ holds k (take (length l - (j + 1)) (drop (j + 1) l)) → r ≡ holds k (drop (j + 1) l)
later_is k l j e = e ∙ ap (holds k) (part_is l j)

-- the library's search for a number, which compares from the other side
eqb_turned : (a b : ℕ) → eqb a b ≡ eqb b a
eqb_turned zero zero = refl
eqb_turned zero (suc b) = eqb-zero-suc b ∙ sym (eqb-suc-zero b)
eqb_turned (suc a) zero = eqb-suc-zero a ∙ sym (eqb-zero-suc a)
eqb_turned (suc a) (suc b) = eqb-suc-suc a b ∙ eqb_turned a b ∙ sym (eqb-suc-suc b a)

pub any_is : (k : ℕ) (l : List ℕ) → list_any (λ (x : ℕ). eqb x k) l ≡ holds k l
any_is k [] = refl
any_is k (x ∷ l) = ap₂ ◌||◌ (eqb_turned x k) (any_is k l)

-- a function of what is still to come, at a turn and at the end
module _ {B : Type 0} (f : List ℕ → B) (l : List ℕ) (j : ℕ) {b : B} (e : f (drop j l) ≡ b) where
  pub rest : j < length l → f (get_or l j 0 ∷ drop (j + 1) l) ≡ b
  rest h = sym (ap f (next_of l j h)) ∙ e

  pub last : length l ≤ j → f [] ≡ b
  last h = sym (ap f (end_of l j h)) ∙ e

-- each number of an order that passed is below the count
pub below_at : (count : ℕ) (l : List ℕ) → all_below count l ≡ true → (j : ℕ) → j < length l → get_or l j 0 < count
below_at count [] e j h = absurd (omega arith)
below_at count (x ∷ l) e zero h = ltb-true _ _ (and_left (ltb x count) (all_below count l) e)
below_at count (x ∷ l) e (suc j) h = below_at count l (and_right (ltb x count) (all_below count l) e) j (le_of_suc-le-suc h)

-- ---- check 3

module _ (count : ℕ) (ks : List ℕ) where
  pub not_there : false ≡ all_below count ks → false ≡ orderly count ks
  unfolding orderly
  not_there e = rw (sym e) (sym (and-false (leb (length ks) 32)))

  pub twice : true ≡ repeats ks → false ≡ orderly count ks
  unfolding orderly
  twice e = rw (sym e, and-false (all_below count ks)) (sym (and-false (leb (length ks) 32)))

  pub in_order : length ks ≤ 32 → true ≡ all_below count ks → false ≡ repeats ks → true ≡ orderly count ks
  unfolding orderly
  in_order h e f = rw (le-leb _ _ h, sym e, sym f) refl

  pub orderly-told : orderly count ks ≡ true → (length ks ≤ 32) × (all_below count ks ≡ true)
  unfolding orderly
  orderly-told e = (leb-true _ _ (and_left _ _ e), and_left _ _ (and_right (leb (length ks) 32) _ e))
