-- A float within 0 to 2 ^ 53 rounded up, from its whole part and from whether there is more. Assumes nothing.
use Rattle.std.proofs.Common.{◌≡◌, ℕ, suc, ◌+◌, ◌-◌, ◌*◌, ◌/◌, ◌^◌, ◌<◌, ◌≤◌, true, false, ltb, ℤ, pos, sym, refl, ◌∙◌, zero-le, div-lt_iff_lt-mul, zero-mul, div-mul-le_self, arith, ltb-false, ltb-true, lt-ltb, le-leb}
use native.Mathlib.Nat.{div-eq_of_lt-le, lt-mul-div-succ}
use lib.Ieee.{Float, fin, binary64, of_int, of_bits, to_unsigned, round, eq, lt, le, up, down}
use lib.Ieee.Fits.{down_pos}
use lib.Ieee.Back.{round_whole}
use Rattle.numbers.specs.Ceil.{ceil_of, up_of}
use Rattle.numbers.proofs.Compare.{falsehood, le_test, whole_lt}
use Rattle.numbers.proofs.Range.{Within, minus_zero, plus, part_le, cast_is}

-- ---- a fraction u / d, its whole part, and rounded up
more : (u d : ℕ) → 0 < d → u / d * d < u → u / d + 1 ≡ (u + (d - 1)) / d
more u d p h =
    let l : u < d * (u / d + 1) = lt-mul-div-succ u p in
    sym (div-eq_of_lt-le d (omega arith) (omega arith))

no_more : (u d : ℕ) → 0 < d → u ≤ u / d * d → u / d ≡ (u + (d - 1)) / d
no_more u d p h =
    let l : u / d * d ≤ u = div-mul-le_self u d in
    sym (div-eq_of_lt-le d (omega arith) (omega arith))

up_le : (n u d : ℕ) → 0 < d → u ≤ n * d → (u + (d - 1)) / d ≤ n
up_le n u d p h = omega (arith, (div-lt_iff_lt-mul {x = u + (d - 1)} {y = suc n} p).1 (omega arith))

-- ---- a float

-- the whole part as a float again, compared with the float: whether there is more
back_below : (m : ℕ) (e : ℤ) → m * up e ≤ 2 ^ 53 * down e → lt (of_int binary64 (pos (to_unsigned 64 (fin false m e)))) (fin false m e) ≡ ltb (m * up e / down e * down e) (m * up e)
unfolding of_int
back_below m e h =
    let q = m * up e / down e in
    rw (cast_is m e h) (whole_lt (round binary64 false q 1) q m e (round_whole binary64 false q (part_le (2 ^ 53) m e h)))

pub cast_le : {x : Float} → Within (2 ^ 53) x → to_unsigned 64 x ≤ 2 ^ 53
cast_le (minus_zero e) = unfold to_unsigned in zero-le
cast_le (plus m e h) = rw (cast_is m e h) (part_le (2 ^ 53) m e h)

pub up_one : {x : Float} → Within (2 ^ 53) x → lt (of_int binary64 (pos (to_unsigned 64 x))) x ≡ true → to_unsigned 64 x + 1 ≡ ceil_of x
unfolding ceil_of
up_one (minus_zero e) t = unfold lt of_int to_unsigned in falsehood t
up_one (plus m e h) t = rw (cast_is m e h) (more (m * up e) (down e) (down_pos e) (ltb-true _ _ (sym (back_below m e h) ∙ t)))

pub up_none : {x : Float} → Within (2 ^ 53) x → lt (of_int binary64 (pos (to_unsigned 64 x))) x ≡ false → to_unsigned 64 x ≡ ceil_of x
unfolding ceil_of
up_none (minus_zero e) t = unfold to_unsigned in refl
up_none (plus m e h) t = rw (cast_is m e h) (no_more (m * up e) (down e) (down_pos e) (ltb-false _ _ (sym (back_below m e h) ∙ t)))

pub up_is : {x : Float} → Within (2 ^ 53) x → up_of x ≡ ceil_of x
unfolding up_of le lt eq of_bits
up_is (minus_zero e) =
    let p : 0 < down e = down_pos e in
    rw (lt-ltb 0 (0 * up e * 1 + 2 ^ 53 * down e) (omega arith)) (simp zero-mul)
up_is (plus m e h) = simp (le_test, le-leb (0 * down e) (m * up e * 1) (omega arith), le-leb (m * up e * 1) (2 ^ 53 * down e) (omega arith))

pub ceil_le : {n : ℕ} {x : Float} → Within n x → ceil_of x ≤ n
unfolding ceil_of
ceil_le (minus_zero e) = zero-le
ceil_le {n} (plus m e h) = up_le n (m * up e) (down e) (down_pos e) h
