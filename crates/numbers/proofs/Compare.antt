-- What comparisons of floats say: of a float with zero, with any other, and of a float that is not negative with a whole number.
--     zero_eq, zero_lt, zero-le    a finite float against zero: its sign tells, and whether it has digits
--     above_only, equal_only       one that is above another is not at or below it; of two that are equal neither is below the other
--     whole_lt, whole_le           m * 2 ^ e against a float whose value is the whole number n
-- Assumes nothing.
use Rattle.std.proofs.Common.{◌≡◌, ℕ, zero, suc, ◌+◌, ◌*◌, ◌<◌, ◌≤◌, Bool, true, false, not, ◌&&◌, ◌||◌, eqb, ltb, leb, ℤ, sym, refl, ap, ◌∙◌, le_of_eq, le_of_lt, mul-le-mul_right, zero-lt-suc, mul-lt-mul_of_pos_right, mul-pos, zero-mul, mul-one, mul_right_comm, arith, ltb-false, ltb-true, le-ltb, lt-ltb, ne_eqb, eqb-true, le-leb, leb-false, leb-true}
use mathlib.Core.Bool.{false≢true, not-or_self, or-true}
use borrow.Author.Tests.{eqb-false, lt-leb}
use lib.Dec.{eqb-suc-zero}
use lib.Ieee.{Float, nan, inf, fin, of_bits, eq, lt, le, is_nan, up, down, below, level}
use lib.Ieee.Exact.{HasValue}
use lib.Ieee.Fits.{up_pos, down_pos}
use Rattle.numbers.specs.Constants.{zero64}

pub falsehood : {A : Type 0} → false ≡ true → A
falsehood h = absurd (false≢true h)

-- ---- with zero
pub size_pos : (m : ℕ) (e : ℤ) → 0 < suc m * up e
size_pos m e = mul-pos (zero-lt-suc m) (up_pos e)

digits : (m : ℕ) (e : ℤ) → eqb (m * up e) 0 ≡ eqb m 0
digits zero e = simp zero-mul
digits (suc m) e = ne_eqb (suc m * up e) 0 (λ q. omega (arith, size_pos m e)) ∙ sym (eqb-suc-zero m)

and_again : (s a : Bool) → (a && (s || a)) ≡ a
and_again true true = refl
and_again true false = refl
and_again false true = refl
and_again false false = refl

pub zero_eq : (s : Bool) (m : ℕ) (e : ℤ) → eq (fin s m e) zero64 ≡ eqb m 0
unfolding eq of_bits
zero_eq s m e = simp (zero-mul, mul-one, digits, and_again)

pub zero_lt : (s : Bool) (m : ℕ) (e : ℤ) → lt (fin s m e) zero64 ≡ (s && not (eqb m 0))
unfolding lt of_bits
zero_lt false m e = le-ltb (m * up e * 1) (0 * down e) (omega arith)
zero_lt true zero e = simp zero-mul
zero_lt true (suc m) e = rw (lt-ltb 0 (suc m * up e * 1 + 0 * down e) (omega (arith, size_pos m e)), eqb-suc-zero)

or_again : (s a : Bool) → (s && not a || a) ≡ (s || a)
or_again true a = not-or_self a
or_again false a = refl

pub zero-le : (s : Bool) (m : ℕ) (e : ℤ) → le (fin s m e) zero64 ≡ (s || eqb m 0)
unfolding le
zero-le s m e = rw (zero_lt s m e, zero_eq s m e, or_again)

-- ---- with any other

never : (p q : Bool) → (p ≡ true → q ≡ true → ⊥) → (p && q) ≡ false
never true true h = absurd (h refl refl)
never true false h = refl
never false q h = refl

each : (p q : Bool) → (p && q) ≡ true → (p ≡ true) × (q ≡ true)
each true true h = (refl, refl)
each true false h = falsehood h
each false q h = falsehood h

-- `<=` of two floats that are not negative, as `le` has it
pub le_test : (a b : ℕ) → (ltb a b || (eqb a b && true)) ≡ leb a b
le_test a b = go (ltb a b) (eqb a b) (ltb-true a b) (ltb-false a b) (eqb-true a b) (eqb-false a b)
  where
    go : (x y : Bool) → (x ≡ true → a < b) → (x ≡ false → b ≤ a) → (y ≡ true → a ≡ b) → (y ≡ false → a ≡ b → ⊥) → (x || (y && true)) ≡ leb a b
    go true y p q r s = sym (le-leb a b (le_of_lt (p refl)))
    go false true p q r s = sym (le-leb a b (le_of_eq (r refl)))
    go false false p q r s =
        let l : b ≤ a = q refl in
        let d : a ≡ b → ⊥ = s refl in
        sym (lt-leb a b (omega arith))

-- of two magnitudes with their signs
magnitude_above : (s : Bool) (a : ℕ) (t : Bool) (b : ℕ) → below t b s a ≡ true → (below s a t b || level s a t b) ≡ false
magnitude_above false a false b h = le_test a b ∙ lt-leb a b (ltb-true b a h)
magnitude_above false a true b h = never (eqb a b) (eqb a 0) (λ p q. omega (arith, ltb-true 0 (b + a) h, eqb-true a b p, eqb-true a 0 q))
magnitude_above true a false b h = falsehood h
magnitude_above true a true b h = rw (le-ltb b a (le_of_lt (ltb-true a b h)), ne_eqb a b (λ q. omega (arith, ltb-true a b h)))

magnitude-equal : (s : Bool) (a : ℕ) (t : Bool) (b : ℕ) → level s a t b ≡ true → below s a t b ≡ false
magnitude-equal false a false b h = le-ltb a b (le_of_eq (sym (eqb-true a b (each (eqb a b) _ h).0)))
magnitude-equal false a true b h = refl
magnitude-equal true a false b h =
    le-ltb 0 (a + b) (omega (arith, eqb-true a b (each (eqb a b) _ h).0, eqb-true a 0 (each (eqb a b) _ h).1))
magnitude-equal true a true b h = le-ltb b a (le_of_eq (eqb-true a b (each (eqb a b) _ h).0))

pub above_only : (x y : Float) → lt y x ≡ true → le x y ≡ false
unfolding le lt eq
above_only nan nan h = refl
above_only nan (inf t) h = refl
above_only nan (fin t n d) h = refl
above_only (inf s) nan h = refl
above_only (inf true) (inf true) h = falsehood h
above_only (inf true) (inf false) h = falsehood h
above_only (inf false) (inf true) h = refl
above_only (inf false) (inf false) h = falsehood h
above_only (inf true) (fin t n d) h = falsehood h
above_only (inf false) (fin t n d) h = refl
above_only (fin s m e) nan h = refl
above_only (fin s m e) (inf true) h = refl
above_only (fin s m e) (inf false) h = falsehood h
above_only (fin s m e) (fin t n d) h = magnitude_above s (m * up e * down d) t (n * up d * down e) h

pub equal_only : (x y : Float) → eq x y ≡ true → (is_nan x ≡ false) × (lt x y ≡ false) × (lt y x ≡ false)
unfolding is_nan
equal_only x y h = (number x y h, first x y h, go (lt y x) refl)
  where
    number : (x y : Float) → eq x y ≡ true → is_nan x ≡ false
    number nan y h = unfold eq in falsehood h
    number (inf s) y h = refl
    number (fin s m e) y h = refl

    first : (x y : Float) → eq x y ≡ true → lt x y ≡ false
    first nan y h = unfold lt in refl
    first (inf s) nan h = unfold lt in refl
    first (inf true) (inf true) h = unfold lt in refl
    first (inf true) (inf false) h = unfold eq in falsehood h
    first (inf false) (inf t) h = unfold lt in refl
    first (inf s) (fin t n d) h = unfold eq in falsehood h
    first (fin s m e) nan h = unfold lt in refl
    first (fin s m e) (inf t) h = unfold eq in falsehood h
    first (fin s m e) (fin t n d) h = unfold lt in magnitude-equal s (m * up e * down d) t (n * up d * down e) (unfold eq in h)

    go : (b : Bool) → lt y x ≡ b → lt y x ≡ false
    go true e = falsehood (sym (above_only x y e) ∙ unfold le in rw (h, or-true))
    go false e = e

-- ---- with a whole number

leb_scale : (a b d : ℕ) → 0 < d → leb (a * d) (b * d) ≡ leb a b
leb_scale a b d D = go (leb a b) refl
  where
    go : (x : Bool) → leb a b ≡ x → leb (a * d) (b * d) ≡ x
    go true h = le-leb (a * d) (b * d) (mul-le-mul_right d (leb-true a b h))
    go false h = lt-leb (a * d) (b * d) (mul-lt-mul_of_pos_right (leb-false a b h) D)

ltb_scale : (a b d : ℕ) → 0 < d → ltb (a * d) (b * d) ≡ ltb a b
ltb_scale a b d D = go (ltb a b) refl
  where
    go : (x : Bool) → ltb a b ≡ x → ltb (a * d) (b * d) ≡ x
    go true h = lt-ltb (a * d) (b * d) (mul-lt-mul_of_pos_right (ltb-true a b h) D)
    go false h = le-ltb (a * d) (b * d) (mul-le-mul_right d (ltb-false a b h))

-- k / d is n, so over another denominator c it is n * c
whole-over : (k n d c : ℕ) → k * 1 ≡ n * d → k * c ≡ n * c * d
whole-over k n d c h = ap (λ (x : ℕ). x * c) (sym (mul-one k) ∙ h) ∙ mul_right_comm n d c

pub whole_lt : (y : Float) (n m : ℕ) (e : ℤ) → HasValue y false n 1 → lt y (fin false m e) ≡ ltb (n * down e) (m * up e)
unfolding lt
whole_lt nan n m e v = absurd v
whole_lt (inf s) n m e v = absurd v
whole_lt (fin true k d) n m e v = falsehood (sym v.0)
whole_lt (fin false k d) n m e v = rw (whole-over (k * up d) n (down d) (down e) v.1) (ltb_scale (n * down e) (m * up e) (down d) (down_pos d))

pub whole_le : (y : Float) (n m : ℕ) (e : ℤ) → HasValue y false n 1 → le (fin false m e) y ≡ leb (m * up e) (n * down e)
unfolding le lt eq
whole_le nan n m e v = absurd v
whole_le (inf s) n m e v = absurd v
whole_le (fin true k d) n m e v = falsehood (sym v.0)
whole_le (fin false k d) n m e v =
    rw (le_test, whole-over (k * up d) n (down d) (down e) v.1) (leb_scale (m * up e) (n * down e) (down d) (down_pos d))
