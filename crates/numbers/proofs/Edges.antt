-- What 01 says of the edges of the small functions and of the sine, from the definitions. Assumes nothing.
use Rattle.std.proofs.Common.{◌≡◌, Bool, true, false, cond, ◌⊎◌, refl, inl, inr}
use lib.Ieee.{Float, nan, inf, fin, binary64, of_bits, is_nan, add, rem, round, neg, lt, eq, le}
use Rattle.numbers.specs.Constants.{zero64, half64, one64}
use Rattle.numbers.specs.Small.{max_of, min_of, held_of, rem_euclid_of}
use Rattle.numbers.specs.Turns.{sine_of, cosine_of}
use Rattle.numbers.proofs.Compare.{above_only, equal_only}

either_way : (b : Bool) (x : Float) → cond b x x ≡ x
either_way true x = refl
either_way false x = refl

-- "if one is NaN, the other"
pub of_nan : (x : Float) → (max_of nan x ≡ x) × (max_of x nan ≡ x) × (min_of nan x ≡ x) × (min_of x nan ≡ x)
unfolding max_of min_of is_nan lt
of_nan nan = (refl, refl, refl, refl)
of_nan (inf s) = (refl, refl, refl, refl)
of_nan (fin s m e) = (refl, refl, refl, refl)

-- "if equal, the first": a number and itself, or two zeros, whatever their signs
pub of_equals : (x y : Float) → eq x y ≡ true → (max_of x y ≡ x) × (min_of x y ≡ x)
unfolding max_of min_of
of_equals x y e =
    let (number, not-below, not_above) = equal_only x y e in
    (rw (number, not-below), rw (number, not_above))

-- "hold f in 0..1 (NaN to 0)": what is below 0 is held to 0 too
pub held_to_zero : (f : Float) → (f ≡ nan) ⊎ (lt f zero64 ≡ true) → held_of f zero64 one64 ≡ zero64
unfolding max_of
held_to_zero f (inl e) = rw e (unfold min_of is_nan of_bits lt in refl)
held_to_zero f (inr e) = rw (e, either_way) (unfold min_of is_nan of_bits lt in refl)

abbrev minus_zero : Float
minus_zero = neg zero64

-- the f64 nearest to -1e-20
abbrev tiny : Float
tiny = of_bits binary64 0xbbc7_9ca1_0c92_4223

-- "It can give 1.0 (from -1e-20) and -0.0 (from -0.0)."
pub rem_euclid : (rem_euclid_of tiny ≡ one64) × (rem_euclid_of minus_zero ≡ minus_zero)
unfolding rem_euclid_of of_bits neg rem add lt round
rem_euclid = (refl, refl)

above_nan : (x : Float) → le x nan ≡ false
unfolding le lt eq
above_nan nan = refl
above_nan (inf s) = refl
above_nan (fin s m e) = refl

-- a turn that is NaN, or below -0.0, or above the end of its range
abbrev pub Outside : Float → Float → Type 0
Outside end x = (x ≡ nan) ⊎ (lt x zero64 ≡ true) ⊎ (lt end x ≡ true)

-- "A turn that is NaN or outside its range .. gives NaN.": the sine's range ends at 1, the cosine's at 0.5
pub sine_outside : (x : Float) → Outside one64 x → sine_of x ≡ nan
unfolding sine_of
sine_outside x (inl e) = rw (e, above_nan zero64)
sine_outside x (inr (inl e)) = rw (above_only zero64 x e)
sine_outside x (inr (inr e)) = rw (above_only x one64 e, either_way)

pub cosine_outside : (x : Float) → Outside half64 x → cosine_of x ≡ nan
unfolding cosine_of
cosine_outside x (inl e) = rw (e, above_nan zero64)
cosine_outside x (inr (inl e)) = rw (above_only zero64 x e)
cosine_outside x (inr (inr e)) = rw (above_only x half64 e, either_way)

-- ".. such as a lent phase of 7 ..": it is outside
pub seven_turns : Outside one64 (of_bits binary64 0x401c_0000_0000_0000)
unfolding of_bits lt
seven_turns = inr (inr refl)
