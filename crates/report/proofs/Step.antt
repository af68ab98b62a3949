-- Samples are added one by one: the report of a list is that of its first sample, and then of the rest. Every loop and every law about stretches
-- rests on this. Assumes nothing.
use mathlib.Core.Path.{◌≡◌, refl, ◌∙◌}
use mathlib.Core.Bool.{Bool, true, false, cond}
use mathlib.Core.List.{List, [], ◌∷◌, ◌++◌, map}
use Prim.Native.Nat.{ℕ, suc, ◌+◌, max}
use native.Mathlib.Nat.{add-zero, add_assoc, max-zero}
use native.Mathlib.Omega.{arith}
use lib.ListN.{length}
use Rattle.report.specs.Sample.{magnitude, is_nan, is_infinite, is_finite, is_above_one, sign_of, is_signed, is_opposite}
use Rattle.report.specs.Report.{those, count, one_if, changes, changes_after, last_after, last_of, greatest, after}
use Rattle.report.specs.Inside.{later_of, with_one}
use Rattle.report.specs.declared.sample.Sign.{Sign}
use Rattle.report.specs.declared.sample.Sign.TheVariants.{Neither, Positive, Negative}
use Rattle.report.specs.declared.report.Report.{Report}

-- one sample counts once or not at all
counted : (b : Bool) (x : ℕ) (xs : List ℕ) → length (cond b (x ∷ xs) xs) ≡ one_if b + length xs
counted true x xs = omega arith
counted false x xs = omega arith

count-first : (such : ℕ → Bool) (x : ℕ) (xs : List ℕ) → count such (x ∷ xs) ≡ one_if (such x) + count such xs
unfolding those
count-first such x xs = counted (such x) x (those such xs)

pub count-one : (such : ℕ → Bool) (x : ℕ) → count such (x ∷ []) ≡ one_if (such x)
unfolding those
count-one such x = count-first such x [] ∙ add-zero _

max_assoc : (a b c : ℕ) → max (max a b) c ≡ max a (max b c)
max_assoc a b c = omega arith

compared : (b : Bool) (x : ℕ) (xs : List ℕ) → greatest (map magnitude (cond b (x ∷ xs) xs)) ≡ max (cond b (magnitude x) 0) (greatest (map magnitude xs))
unfolding greatest
compared true x xs = refl
compared false x xs = omega arith

greatest-first : (x : ℕ) (xs : List ℕ)
    → greatest (map magnitude (those is_finite (x ∷ xs))) ≡ max (cond (is_finite x) (magnitude x) 0) (greatest (map magnitude (those is_finite xs)))
unfolding those
greatest-first x xs = compared (is_finite x) x (those is_finite xs)

greatest-one : (x : ℕ) → greatest (map magnitude (those is_finite (x ∷ []))) ≡ cond (is_finite x) (magnitude x) 0
unfolding those greatest
greatest-one x = greatest-first x [] ∙ max-zero _

-- a sign is held to the last one that was met, and is then that one
pub sign_first : (a b : Sign) (signs : List Sign)
    → (changes (those is_signed (a ∷ b ∷ signs)) ≡ one_if (is_opposite a b) + changes (those is_signed (later_of a b ∷ signs)))
    × (last_of (those is_signed (a ∷ b ∷ signs)) ≡ last_of (those is_signed (later_of a b ∷ signs)))
unfolding those changes changes_after last_after
sign_first Neither Neither signs = (omega arith, refl)
sign_first Neither Positive signs = (omega arith, refl)
sign_first Neither Negative signs = (omega arith, refl)
sign_first Positive Neither signs = (omega arith, refl)
sign_first Positive Positive signs = (omega arith, refl)
sign_first Positive Negative signs = (omega arith, refl)
sign_first Negative Neither signs = (omega arith, refl)
sign_first Negative Positive signs = (omega arith, refl)
sign_first Negative Negative signs = (omega arith, refl)

pub sign_alone : (a : Sign) → (changes (those is_signed (a ∷ [])) ≡ 0) × (last_of (those is_signed (a ∷ [])) ≡ a)
unfolding those changes changes_after last_after
sign_alone Neither = (refl, refl)
sign_alone Positive = (refl, refl)
sign_alone Negative = (refl, refl)

pub after_none : (r : Report) → after r [] ≡ r
unfolding after those greatest
after_none r =
    let s = sign_alone r.last in
    simp (add-zero, max-zero, s.0, s.1)

-- the report of one sample more
pub after_one : (r : Report) (bits : ℕ) → after r (bits ∷ []) ≡ with_one r bits
unfolding after with_one
after_one r bits =
    let f = sign_first r.last (sign_of bits) [] in
    let s = sign_alone (later_of r.last (sign_of bits)) in
    simp (count-one, greatest-one, f.0, f.1, s.0, s.1, add-zero)

pub after_first : (r : Report) (x : ℕ) (xs : List ℕ) → after r (x ∷ xs) ≡ after (after r (x ∷ [])) xs
unfolding after
after_first r x xs =
    let f = sign_first r.last (sign_of x) (map sign_of xs) in
    let g = sign_first r.last (sign_of x) [] in
    let s = sign_alone (later_of r.last (sign_of x)) in
    let n : r.samples + suc (length xs) ≡ r.samples + (1 + length xs) = omega arith in
    simp (
      n,
      count-first is_nan x xs,
      count-first is_infinite x xs,
      count-first is_above_one x xs,
      count-one,
      greatest-first x xs,
      greatest-one,
      f.0,
      f.1,
      g.0,
      g.1,
      s.0,
      s.1,
      add-zero,
      add_assoc,
      max_assoc,
    )

-- the report of two stretches, one after the other, is that of both joined
pub after_joined : (r : Report) (xs ys : List ℕ) → after (after r xs) ys ≡ after r (xs ++ ys)
after_joined r [] ys = rw after_none
after_joined r (x ∷ xs) ys = rw (after_first r x xs, after_first r x (xs ++ ys)) (after_joined (after r (x ∷ [])) xs ys)
