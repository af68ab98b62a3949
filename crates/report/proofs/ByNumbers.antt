-- What a sample counts among by its bits is what it counts among as a number, for every word.
--     by_nan, by_finite    it is NaN, or a finite number; what is neither is infinite
--     by_one               its magnitude is above 1.0
--     by_sign              it is above zero, below zero, or neither
-- Rests on proofs/Magnitudes for the order of bits. Assumes nothing.
use mathlib.Core.Path.{◌≡◌, refl, sym, ap, ◌∙◌}
use mathlib.Core.Logic.{◌⊎◌, inl, inr, ⊎_elim}
use mathlib.Core.Bool.{Bool, true, false, false≢true, not, ◌&&◌, ◌||◌, cond, and-true, and-false, or-true}
use Prim.Native.Nat.{ℕ, zero, suc, ◌*◌, ◌<◌}
use native.Mathlib.Nat.{add-zero, zero-mul, le_of_lt, eq-or-lt_of_le}
use native.Mathlib.Omega.{arith}
use borrow.Author.Tests.{lt-ltb, le-ltb, ltb-false, leb-true, leb-false, ne_eqb}
use lib.Count.{count_trailing_zeros}
use lib.Dec.{ltb, leb, eqb}
use lib.Ieee.{Float, nan, inf, fin, binary64, up, down, odd, of_fields, of_bits, lt}
use lib.Ieee as I
use lib.Ieee.Bits.{nan_bits_is, nan_bits_above}
use lib.Ieee.Scale.{finite}
use lib.Ieee.Exact.{HasValue}
use Rattle.numbers.specs.Constants.{zero64, one64}
use Rattle.numbers.specs.Small.{negative, abs_of}
use Rattle.words.specs.Number.{from_word}
use Rattle.report.specs.Sample.{sign_bit, infinity, one, magnitude, is_nan, is_finite, is_above_one, sign_of}
use Rattle.report.specs.declared.sample.Sign.TheVariants.{Neither, Positive, Negative}
use Rattle.report.proofs.Magnitudes.{three, by_magnitude, finite_value, infinite_is}

pub by_nan : (bits : ℕ) → is_nan bits ≡ I.is_nan (from_word bits)
unfolding is_nan
by_nan bits = sym (nan_bits_above binary64 bits) ∙ nan_bits_is binary64 bits

is_nan_lem : (x : Float) → I.is_nan x ≡ true → x ≡ nan
unfolding I.is_nan
is_nan_lem nan h = refl
is_nan_lem (inf s) h = absurd (false≢true h)
is_nan_lem (fin s m e) h = absurd (false≢true h)

nan_above : (bits : ℕ) → infinity < magnitude bits → is_nan bits ≡ true
unfolding is_nan
nan_above bits h = lt-ltb _ _ h

value_finite : (x : Float) (s : Bool) (a c : ℕ) → HasValue x s a c → finite x ≡ true
value_finite nan s a c p = absurd p
value_finite (inf t) s a c p = absurd p
value_finite (fin t m e) s a c p = refl

pub by_finite : (bits : ℕ) → is_finite bits ≡ finite (from_word bits)
unfolding is_finite
by_finite bits = go (three (magnitude bits) infinity)
  where
    go : (magnitude bits < infinity) ⊎ ((magnitude bits ≡ infinity) ⊎ (infinity < magnitude bits)) → ltb (magnitude bits) infinity ≡ finite (from_word bits)
    go (inl p) = lt-ltb _ _ p ∙ sym (value_finite (from_word bits) _ _ _ (finite_value bits p))
    go (inr (inl p)) = le-ltb (magnitude bits) infinity (omega arith) ∙ sym (ap finite (infinite_is bits p))
    go (inr (inr p)) = le-ltb _ _ (le_of_lt p) ∙ sym (ap finite (is_nan_lem (from_word bits) (sym (by_nan bits) ∙ nan_above bits p)))

unordered : (x : Float) → (lt x nan ≡ false) × (lt nan x ≡ false)
unfolding lt
unordered nan = (refl, refl)
unordered (inf s) = (refl, refl)
unordered (fin s m e) = (refl, refl)

abs_nan : abs_of nan ≡ nan
unfolding abs_of
abs_nan = refl

abs_one : abs_of one64 ≡ one64
unfolding abs_of of_bits of_fields odd count_trailing_zeros
abs_one = refl

pub by_one : (bits : ℕ) → is_above_one bits ≡ lt one64 (abs_of (from_word bits))
unfolding is_above_one is_nan
by_one bits = go (is_nan bits) refl
  where
    go : (b : Bool) → is_nan bits ≡ b → (ltb one (magnitude bits) && not (is_nan bits)) ≡ lt one64 (abs_of (from_word bits))
    go false e = rw (e, and-true) (sym (by_magnitude one bits refl e) ∙ ap (λ (x : Float). lt x (abs_of (from_word bits))) abs_one)
    go true e = rw (e, and-false, is_nan_lem (from_word bits) (sym (by_nan bits) ∙ e), abs_nan) (sym (unordered one64).0)

-- ---- signs
not_nan : is_nan 0 ≡ false
unfolding is_nan
not_nan = refl

value_sign : (x : Float) (s : Bool) (a c : ℕ) → HasValue x s a c → negative x ≡ s
unfolding negative
value_sign nan s a c p = absurd p
value_sign (inf t) s a c p = absurd p
value_sign (fin t m e) s a c p = p.0

has_sign_lem : (bits : ℕ) → is_nan bits ≡ false → negative (from_word bits) ≡ leb sign_bit bits
unfolding is_nan negative
has_sign_lem bits h =
    ⊎_elim (λ p. ap negative (infinite_is bits p)) (λ p. value_sign (from_word bits) _ _ _ (finite_value bits p)) (eq-or-lt_of_le (ltb-false infinity (magnitude bits) h))

abs_zero : abs_of zero64 ≡ zero64
unfolding abs_of of_bits of_fields odd
abs_zero = refl

above_zero : (x : Float) → lt zero64 x ≡ (not (negative x) && lt zero64 (abs_of x))
unfolding lt of_bits of_fields odd negative abs_of
above_zero nan = refl
above_zero (inf true) = refl
above_zero (inf false) = refl
above_zero (fin true m e) = refl
above_zero (fin false m e) = refl

below_zero : (x : Float) → lt x zero64 ≡ (negative x && lt zero64 (abs_of x))
unfolding lt of_bits of_fields odd negative abs_of
below_zero nan = refl
below_zero (inf true) = refl
below_zero (inf false) = refl
below_zero (fin true m e) = simp (zero-mul, add-zero)
below_zero (fin false m e) = le-ltb (m * up e * 1) (0 * down e) (omega arith)

no_zero : (n : ℕ) → eqb n 0 ≡ not (ltb 0 n)
no_zero zero = refl
no_zero (suc n) = ne_eqb (suc n) 0 (λ e. omega arith) ∙ ap not (sym (lt-ltb 0 (suc n) (omega arith)))

other_side : (a b : ℕ) → ltb a b ≡ not (leb b a)
other_side a b = go (leb b a) refl
  where
    go : (t : Bool) → leb b a ≡ t → ltb a b ≡ not (leb b a)
    go true e = rw e (le-ltb a b (leb-true b a e))
    go false e = rw e (lt-ltb a b (leb-false b a e))

told : (some minus : Bool)
    → cond (not some || false) Neither (cond (not minus) Positive Negative)
    ≡ cond (not minus && some) Positive (cond (minus && some) Negative Neither)
told true true = refl
told true false = refl
told false true = refl
told false false = refl

pub by_sign : (bits : ℕ) → sign_of bits ≡ cond (lt zero64 (from_word bits)) Positive (cond (lt (from_word bits) zero64) Negative Neither)
unfolding sign_of
by_sign bits = go (is_nan bits) refl
  where
    x : Float
    x = from_word bits

    go : (b : Bool) → is_nan bits ≡ b
        → cond (eqb (magnitude bits) 0 || is_nan bits) Neither (cond (ltb bits sign_bit) Positive Negative)
        ≡ cond (lt zero64 x) Positive (cond (lt x zero64) Negative Neither)
    go true e = rw (e, or-true, is_nan_lem x (sym (by_nan bits) ∙ e), (unordered zero64).0, (unordered zero64).1)
    go false e =
        let some : lt zero64 (abs_of x) ≡ ltb 0 (magnitude bits) = ap (λ (y : Float). lt y (abs_of x)) (sym abs_zero) ∙ by_magnitude 0 bits not_nan e in
        rw
        (e, no_zero (magnitude bits), other_side bits sign_bit, above_zero x, below_zero x, has_sign_lem bits e, some)
        (told (ltb 0 (magnitude bits)) (leb sign_bit bits))
