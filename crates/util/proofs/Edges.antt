-- What 01 says of the edges: a soft clip of infinity, which rings are refused, and where an offset of 0 reads. Assumes nothing.
use Rattle.std.proofs.Common.{◌≡◌, ℕ, ◌+◌, ◌-◌, ◌%◌, ◌<◌, ◌≤◌, Bool, true, false, ◌&&◌, ltb, leb, ◌⊎◌, ◌↔◌, List, length, get_or, ℤ, sym, refl, ap, ◌∙◌, inl, inr, mod-eq_of_lt, arith, ltb-false, le-ltb, leb-false}
use mathlib.Core.Bool.{and-false, false≢true}
use native.Mathlib.Nat.{add-mod_right, mod-add-mod}
use borrow.Author.Tests.{lt-leb}
use lib.Ieee.{Float, nan, inf, fin, binary64, of_bits, of_int, round, add, sub, mul, div, neg, lt, eq, le}
use Rattle.numbers.specs.Constants.{zero64, one64}
use Rattle.numbers.specs.Small.{negative, abs_of, copysign_of, held_of}
use Rattle.numbers.specs.Ceil.{ceil_of, gap_of}
use Rattle.numbers.proofs.Offset.{offset_zero}
use Rattle.util.specs.Reach.{reach_of}
use Rattle.util.specs.DelayLine.{slot, delay_of, delayed_by, delayed_fract, in_ring}
use Rattle.util.specs.Interaction.{clipped}

-- an infinity divided by anything, plus 1, is an infinity or NaN, so that infinity over it is NaN
over-infinity : (y : Float) → div binary64 (inf false) (add binary64 (div binary64 (inf false) y) one64) ≡ nan
unfolding div add of_bits
over-infinity nan = refl
over-infinity (inf s) = refl
over-infinity (fin s m e) = refl

signed_nan : (s : Bool) → copysign_of nan (inf s) ≡ nan
unfolding copysign_of negative abs_of neg
signed_nan true = refl
signed_nan false = refl

-- "With finite L, infinity gives NaN."
pub clip_of_infinity : (s t : Bool) (m : ℕ) (e : ℤ) → clipped (fin t m e) (inf s) ≡ nan
unfolding clipped abs_of le lt eq sub add neg
clip_of_infinity s t m e = rw (over-infinity (sub binary64 one64 (fin t m e))) (signed_nan s)

-- "refuse a length of 0 or above 32,768, or a position not below the length": just these
pub ring-refused : (position slots : ℕ) → (in_ring position slots ≡ false) ↔ ((slots ≡ 0) ⊎ (32768 < slots) ⊎ (slots ≤ position))
unfolding in_ring
ring-refused position slots = (found, refused)
  where
    found : (leb slots 32768 && ltb position slots) ≡ false → (slots ≡ 0) ⊎ (32768 < slots) ⊎ (slots ≤ position)
    found e = go (leb slots 32768) (ltb position slots) refl refl e
      where
        go : (b c : Bool) → leb slots 32768 ≡ b → ltb position slots ≡ c → (b && c) ≡ false → (slots ≡ 0) ⊎ (32768 < slots) ⊎ (slots ≤ position)
        go false c p q h = inr (inl (leb-false slots 32768 p))
        go true false p q h = inr (inr (ltb-false position slots q))
        go true true p q h = absurd (false≢true (sym h))

    refused : (slots ≡ 0) ⊎ (32768 < slots) ⊎ (slots ≤ position) → (leb slots 32768 && ltb position slots) ≡ false
    refused (inl e) = rw (le-ltb position slots (omega arith), and-false (leb slots 32768))
    refused (inr (inl h)) = rw (lt-leb slots 32768 h)
    refused (inr (inr h)) = rw (le-ltb position slots h, and-false (leb slots 32768))

-- "An offset of 0 therefore reads the oldest sample, since writing comes after.": the slot at the position, which the next write takes.
-- The interpolation keeps its 0 times the neighbour.
pub oldest : (ring : List Float) (position : ℕ) (f : Float) → position < length ring → length ring ≤ 32768 → held_of f zero64 one64 ≡ zero64
    → delayed_fract f ring position ≡ add binary64 (mul binary64 one64 (get_or ring position nan)) (mul binary64 zero64 (slot ring (position + 1)))
unfolding delayed_by
oldest ring position f h small e = rw (no_delay, whole, itself, neighbour, weight)
  where
    no_delay : delay_of (length ring) f ≡ record { whole = 0; rest = zero64; reach = reach_of f }
    no_delay = unfold delay_of in rw (offset_zero (length ring - 1) f (omega (arith, small)) e) (unfold ceil_of gap_of of_bits of_int round sub add neg in refl)

    whole : position + length ring - 0 ≡ position + length ring
    whole = omega arith

    itself : (position + length ring) % length ring ≡ position
    itself = add-mod_right position (length ring) ∙ mod-eq_of_lt h

    neighbour : (position + length ring + 1) % length ring ≡ (position + 1) % length ring
    neighbour = sym (mod-add-mod (position + length ring) (length ring) 1) ∙ ap (λ (k : ℕ). (k + 1) % length ring) itself

    weight : sub binary64 one64 zero64 ≡ one64
    weight = unfold of_bits round sub add neg in refl
