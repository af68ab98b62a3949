-- What one rounding does: its sign is the one it is handed, a value that f64 holds stays, and of a whole number of f64's smallest values only 0 gives a zero.
--     round_signed               a rounded number, given a sign, is the number rounded with that sign
--     fitted, round-own          what f64 holds: how many digits, how deep and how large; and that it rounds to itself
--     same_bits                  what f64 holds is one by its sign and its value
--     unit_grid                  what f64 holds is a whole number of its smallest values, 2 ^ -1074
--     round_zero, zero_rounds    of such numbers, 0 alone rounds to a zero
-- Assumes nothing.
use Rattle.std.proofs.Common.{◌≡◌, ℕ, zero, suc, ◌+◌, ◌-◌, ◌*◌, ◌/◌, ◌%◌, ◌^◌, ◌<◌, ◌≤◌, Bool, true, false, cond, ◌&&◌, T, eqb, ltb, leb, ℤ, pos, negsuc, sym, refl, ap, ◌∙◌, subst, le_trans, le_of_eq, lt_of_lt_of_le, lt_irrefl, mul-le-mul_right, zero-lt-suc, mul_assoc, lt_of_mul-lt-mul_right, mul-lt-mul_of_pos_right, mul-pos, one-mul, zero-mul, mul-one, sub-add_cancel, mul_right_comm, arith, lit<, eqb→eq, ltb→lt, leb→le, pow_pos, pow-add, leb-false, leb-true}
use Prim.Native.Nat.{◌∣◌}
use native.Mathlib.Nat.{dvd-mul_left, le_of_dvd}
use lib.Dec.{eqb-suc-zero}
use lib.Pow.{pow-lt}
use lib.Ieee.{Float, nan, inf, fin, Format, binary64, prec, emax, low, up, down, size, odd, units, round, neg, fits, le, lt, eq, hid, top, to_bits, of_bits}
use lib.Ieee.Bits.{of_bits-to_bits}
use lib.Ieee.Exact.{HasValue, round_exact}
use lib.Ieee.Fits.{up_pos, down_pos, round-fits}
use lib.Ieee.Nearest.{div_same}
use lib.Ieee.Order.{round_mono}
use lib.Ieee.Scale.{round_same}
use Rattle.numbers.specs.Constants.{zero64}
use Rattle.numbers.specs.Small.{abs_of}
use Rattle.numbers.specs.Zeros.{is_plus_zero}
use Rattle.numbers.proofs.PlusZero.{is_zero}

-- ---- the sign

-- x's magnitude with the sign s
abbrev pub signed : Bool → Float → Float
signed s x = cond s (neg (abs_of x)) (abs_of x)

odd_signed : (d : ℕ) (s t : Bool) (q k l : ℕ) → signed s (odd d t q k l) ≡ odd d s q k l
unfolding odd neg abs_of
odd_signed d true t zero k l = refl
odd_signed d false t zero k l = refl
odd_signed d true t (suc q) k l = refl
odd_signed d false t (suc q) k l = refl

inf_signed : (s t : Bool) → signed s (inf t) ≡ inf s
unfolding neg abs_of
inf_signed true t = refl
inf_signed false t = refl

units_signed : (f : Format) (s t : Bool) (q k : ℕ) → signed s (units f t q k) ≡ units f s q k
unfolding units
units_signed f s t q k = go (ltb (q * 2 ^ k) (2 ^ (low f + suc (emax f))))
  where
    go : (b : Bool) → signed s (cond b (odd (suc (prec f)) t q k (low f)) (inf t)) ≡ cond b (odd (suc (prec f)) s q k (low f)) (inf s)
    go true = odd_signed (suc (prec f)) s t q k (low f)
    go false = inf_signed s t

pub round_signed : (f : Format) (s t : Bool) (n d : ℕ) → signed s (round f t n d) ≡ round f s n d
unfolding round
round_signed f s t n d = units_signed f s t _ _

-- ---- a value that f64 holds

parts : (a b c d : Bool) → T (a && b && c && d) → T b × T c × T d
parts true true true true t = (tt, tt, tt)
parts true true true false t = absurd t
parts true true false d t = absurd t
parts true false c d t = absurd t
parts false b c d t = absurd t

pub record Fitted (m : ℕ) (e : ℤ) : Type 0 where
  pub digits : m < 2 ^ 53
  pub depth : down e ≤ 2 ^ 1074
  pub below : m * up e < 2 ^ 1024 * down e

pub fitted : (s : Bool) (m : ℕ) (e : ℤ) → T (fits binary64 (fin s m e)) → Fitted m e
unfolding fits
fitted s zero e t = record {
  digits = pow_pos 53;
  depth = le_trans (rw one-mul at (mul-le-mul_right (down e) (up_pos e))) (le_trans (le_of_eq (eqb→eq (up e * down e) 1 t)) (pow_pos 1074));
  below = rw zero-mul (mul-pos (pow_pos 1024) (down_pos e));
}
fitted s (suc m) e t =
    let p = parts (eqb (suc m % 2) 1) (ltb (suc m) (2 ^ 53)) (leb (down e) (2 ^ 1074)) (ltb (suc m * up e) (2 ^ 1024 * down e)) t in
    record { digits = ltb→lt (suc m) (2 ^ 53) p.0; depth = leb→le (down e) (2 ^ 1074) p.1; below = ltb→lt (suc m * up e) (2 ^ 1024 * down e) p.2 }

deep : (k : ℕ) → 2 ^ k ≤ 2 ^ 1074 → k ≤ 1074
deep k h = go (leb k 1074) refl
  where
    go : (b : Bool) → leb k 1074 ≡ b → k ≤ 1074
    go true p = leb-true k 1074 p
    go false p = absurd (lt_irrefl (2 ^ 1074) (lt_of_lt_of_le (pow-lt (leb-false k 1074 p)) h))

-- 2 ^ e is 2 ^ j of the smallest values
steps : (e : ℤ) → down e ≤ 2 ^ 1074 → (j : ℕ) × (up e * 2 ^ 1074 ≡ 2 ^ j * down e)
steps (pos k) h = (k + 1074, sym (pow-add 2 k 1074) ∙ sym (mul-one (2 ^ (k + 1074))))
steps (negsuc k) h =
    (1074 - suc k, one-mul (2 ^ 1074) ∙ ap (λ (n : ℕ). 2 ^ n) (sym (sub-add_cancel (deep (suc k) h))) ∙ pow-add 2 (1074 - suc k) (suc k))

-- m * 2 ^ e is m * 2 ^ j of them
in_units : (s : Bool) (m : ℕ) (e : ℤ) → T (fits binary64 (fin s m e)) → (j : ℕ) × (m * up e * 2 ^ 1074 ≡ m * 2 ^ j * down e)
in_units s m e t =
    let j = steps e (fitted s m e t).depth in
    (j.0, mul_assoc m (up e) (2 ^ 1074) ∙ ap (λ (n : ℕ). m * n) j.1 ∙ sym (mul_assoc m (2 ^ j.0) (down e)))

pub unit_grid : (s : Bool) (m : ℕ) (e : ℤ) → T (fits binary64 (fin s m e)) → down e ∣ m * up e * 2 ^ 1074
unit_grid s m e t =
    let j = in_units s m e t in
    subst (λ (n : ℕ). down e ∣ n) (sym j.1) (dvd-mul_left (down e) (m * 2 ^ j.0))

-- two that f64 holds and that have one sign and one value are one: they have the same bits
pub same_bits : (x : Float) (s : Bool) (m : ℕ) (e : ℤ) → T (fits binary64 x) → T (fits binary64 (fin s m e)) → HasValue x s (m * up e) (down e) → x ≡ fin s m e
unfolding to_bits
same_bits nan s m e p q v = absurd v
same_bits (inf t) s m e p q v = absurd v
same_bits (fin t n d) s m e p q v =
    sym (of_bits-to_bits binary64 (fin t n d) p) ∙ ap (of_bits binary64) bits ∙ of_bits-to_bits binary64 (fin s m e) q
  where
    pattern : Bool → ℕ → ℕ
    pattern s n = cond s (top binary64) 0 + (size n - 53) * hid binary64 + n / 2 ^ (size n - 53)

    units_same : n * up d * 2 ^ 1074 / down d ≡ m * up e * 2 ^ 1074 / down e
    units_same =
        div_same (n * up d * 2 ^ 1074) (down d) (m * up e * 2 ^ 1074) (down e) (down_pos d) (down_pos e)
        (mul_right_comm (n * up d) (2 ^ 1074) (down e) ∙ ap (λ (k : ℕ). k * 2 ^ 1074) v.1 ∙ mul_right_comm (m * up e) (down d) (2 ^ 1074))

    bits : to_bits binary64 (fin t n d) ≡ to_bits binary64 (fin s m e)
    bits = ap (λ (b : Bool). pattern b (n * up d * 2 ^ 1074 / down d)) v.0 ∙ ap (pattern s) units_same

units_small : (m : ℕ) (e : ℤ) (j : ℕ) → Fitted m e → m * up e * 2 ^ 1074 ≡ m * 2 ^ j * down e → m * 2 ^ j < 2 ^ 2098
units_small m e j t h =
    lt_of_mul-lt-mul_right (down e)
    (subst (λ (n : ℕ). n < 2 ^ 2098 * down e) h
    (rw (pow-add 2 1024 1074, mul_right_comm (2 ^ 1024) (2 ^ 1074) (down e)) (mul-lt-mul_of_pos_right t.below (pow_pos 1074))))

pub round-own : (s : Bool) (m : ℕ) (e : ℤ) → T (fits binary64 (fin s m e)) → round binary64 s (m * up e) (down e) ≡ fin s m e
round-own s m e t =
    let j = in_units s m e t in
    same_bits (round binary64 s (m * up e) (down e)) s m e (round-fits binary64 s (m * up e) (down e)) t
    (round_exact binary64 s (m * up e) (down e) m j.0 (down_pos e) (fitted s m e t).digits (units_small m e j.0 (fitted s m e t) j.1) j.1)

-- ---- a zero
above_smallest : (n d : ℕ) → 0 < d → d ∣ suc n * 2 ^ 1074 → round binary64 false (suc n) d ≡ zero64 → ⊥
unfolding round le lt eq of_bits
above_smallest n d p h e =
    subst (λ (x : Float). T (le (round binary64 false 1 (2 ^ 1074)) x)) e
    (round_mono binary64 1 (2 ^ 1074) (suc n) d (pow_pos 1074) p (subst (λ (k : ℕ). k ≤ suc n * 2 ^ 1074) (sym (one-mul d)) (le_of_dvd (mul-pos (zero-lt-suc n) (pow_pos 1074)) h)))

pub round_zero : (s : Bool) (d : ℕ) → 0 < d → round binary64 s 0 d ≡ fin s 0 (pos 0)
round_zero s d D = round_same binary64 s 0 d 0 1 D (lit< tt) (omega arith) ∙ at s
  where
    at : (s : Bool) → round binary64 s 0 1 ≡ fin s 0 (pos 0)
    at true = unfold round in refl
    at false = unfold round in refl

pub zero_rounds : (n d : ℕ) → 0 < d → d ∣ n * 2 ^ 1074 → is_plus_zero (round binary64 false n d) ≡ eqb n 0
zero_rounds zero d p h = ap is_plus_zero (round_zero false d p) ∙ (unfold is_plus_zero in refl)
zero_rounds (suc n) d p h = go (is_plus_zero (round binary64 false (suc n) d)) refl ∙ sym (eqb-suc-zero n)
  where
    go : (b : Bool) → is_plus_zero (round binary64 false (suc n) d) ≡ b → b ≡ false
    go true e = absurd (above_smallest n d p h (is_zero (round binary64 false (suc n) d) e))
    go false e = refl
