-- x % 1.0 without a division.
--     rem_fract      of any f64: x minus its whole part, with x's sign
--     rem_below      of one from 0 to below 1: x
-- Both sides of the first are the rest's fraction, rounded: f64 holds the whole part, so that nothing is lost on the way.
-- Assumes nothing.
use Rattle.std.proofs.Common.{◌≡◌, ℕ, ◌+◌, ◌*◌, ◌/◌, ◌%◌, ◌<◌, Bool, true, false, ◌&&◌, T, ltb, ℤ, sym, refl, ap, ◌∙◌, mod-eq_of_lt, mul_assoc, mul_comm, add-mul, mul-pos, one-mul, div-add-mod', zero-mul, mul-one, mul_right_comm, arith, le-ltb}
use native.Mathlib.Nat.{add-sub_cancel_left}
use lib.Ieee.{Float, nan, inf, fin, binary64, of_bits, add, sub, sum, rem, round, neg, fits, lt, le, up, down}
use lib.Ieee.Fits.{down_pos}
use lib.Ieee.Exact.{HasValue}
use lib.Ieee.Scale.{round_same}
use Rattle.numbers.specs.Constants.{zero64, one64}
use Rattle.numbers.specs.Small.{whole_of, fract_of, copysign_of, negative, abs_of, rem_euclid_of}
use Rattle.numbers.proofs.Compare.{falsehood, zero_lt}
use Rattle.numbers.proofs.Rounding.{round_signed, round-own}
use Rattle.numbers.proofs.Range.{BelowOne, minus_none, plus_part, below_one}
use Rattle.numbers.proofs.WholePart.{whole_exact}

-- ---- x minus its whole part q is the rest r

-- u / d is q and the rest r / d; n / c is q. So over the common denominator u / d is n / c and r / d
over : (u d q r n c : ℕ) → u ≡ q * d + r → n * 1 ≡ q * c → u * c ≡ n * d + r * c
over u d q r n c h k =
    ap (λ (x : ℕ). x * c) h
    ∙ add-mul (q * d) r c
    ∙ ap (λ (x : ℕ). x + r * c) (mul_right_comm q d c ∙ ap (λ (x : ℕ). x * d) (sym k ∙ mul-one n))

-- the rest over the common denominator, rounded
rest_rounds : (t : Bool) (r : ℕ) (e d : ℤ) → round binary64 t (r * down d) (down e * down d) ≡ round binary64 t r (down e)
rest_rounds t r e d =
    round_same binary64 t (r * down d) (down e * down d) r (down e) (mul-pos (down_pos e) (down_pos d)) (down_pos e) (simp (mul_assoc, mul_comm))

not_above : (a b : ℕ) → ltb (a + b) a ≡ false
not_above a b = le-ltb (a + b) a (omega arith)

minus_whole : (w : Float) (s : Bool) (m : ℕ) (e : ℤ) (q r : ℕ) → m * up e ≡ q * down e + r → HasValue w s q 1 → (t : Bool) × (sub binary64 (fin s m e) w ≡ round binary64 t r (down e))
unfolding sub add neg sum
minus_whole nan s m e q r h v = absurd v
minus_whole (inf t) s m e q r h v = absurd v
minus_whole (fin true n d) false m e q r h v = falsehood (sym v.0)
minus_whole (fin false n d) true m e q r h v = falsehood v.0
minus_whole (fin false n d) false m e q r h v =
    let split = over (m * up e) (down e) q r (n * up d) (down d) h v.1 in
    (false, simp (split, not_above, add-sub_cancel_left) (rest_rounds false r e d))
minus_whole (fin true n d) true m e q r h v =
    let split = over (m * up e) (down e) q r (n * up d) (down d) h v.1 in
    let t = ltb (n * up d * down e) (n * up d * down e + r * down d) in
    (t, simp (split, not_above, add-sub_cancel_left) (rest_rounds t r e d))

-- ---- the laws

rem_is : (s : Bool) (m : ℕ) (e : ℤ) → rem binary64 (fin s m e) one64 ≡ round binary64 s (m * up e % down e) (down e)
unfolding rem of_bits
rem_is s m e = simp (mul-one, one-mul)

sign_of : (x : Float) (s : Bool) (m : ℕ) (e : ℤ) (t : Bool) (r d : ℕ) → x ≡ round binary64 t r d → copysign_of x (fin s m e) ≡ round binary64 s r d
unfolding copysign_of negative
sign_of x s m e t r d h = rw h (round_signed binary64 s t r d)

fract_is : (s : Bool) (m : ℕ) (e : ℤ) → fract_of (fin s m e) ≡ sub binary64 (fin s m e) (round binary64 s (m * up e / down e) 1)
unfolding whole_of
fract_is s m e = refl

pub rem_fract : (x : Float) → T (fits binary64 x) → copysign_of (fract_of x) x ≡ rem binary64 x one64
rem_fract nan t = unfold rem sub copysign_of negative abs_of in refl
rem_fract (inf true) t = unfold rem sub add neg copysign_of negative abs_of whole_of in refl
rem_fract (inf false) t = unfold rem sub add neg copysign_of negative abs_of whole_of in refl
rem_fract (fin s m e) t =
    let q = m * up e / down e in
    let r = m * up e % down e in
    let rest = minus_whole (round binary64 s q 1) s m e q r (sym (div-add-mod' (m * up e) (down e))) (whole_exact s m e t) in
    sign_of (fract_of (fin s m e)) s m e rest.0 r (down e) (fract_is s m e ∙ rest.1) ∙ sym (rem_is s m e)

-- below 1 the rest is all there is, and nothing is added to what is not below 0
kept : (s : Bool) (m : ℕ) (e : ℤ) → T (fits binary64 (fin s m e)) → m * up e < down e → lt (fin s m e) zero64 ≡ false → rem_euclid_of (fin s m e) ≡ fin s m e
unfolding rem_euclid_of
kept s m e t h k =
    let own : rem binary64 (fin s m e) one64 ≡ fin s m e = rem_is s m e ∙ ap (λ (n : ℕ). round binary64 s n (down e)) (mod-eq_of_lt h) ∙ round-own s m e t in
    simp (own, k)

stays : {x : Float} → T (fits binary64 x) → BelowOne x → rem_euclid_of x ≡ x
stays t (minus_none e) = kept true 0 e t (rw zero-mul (down_pos e)) (zero_lt true 0 e)
stays t (plus_part m e h) = kept false m e t h (zero_lt false m e)

pub rem_below : (x : Float) → T (fits binary64 x) → (le zero64 x && lt x one64) ≡ true → rem_euclid_of x ≡ x
rem_below x t h = stays t (below_one x h)
