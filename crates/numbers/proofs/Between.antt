-- A float between two fractions, and what a rounding, a product and a difference leave of such bounds.
--     Held, held-own    a / b is an f64; an f64's own fraction
--     Between, widen    x is finite, has the sign s, and its magnitude lies from l / k to a / b; and so between wider ones
--     rounded           a fraction between two f64 rounds to a value between them
--     product, less     of two floats; of two magnitudes with opposite signs
-- Assumes nothing.
use Rattle.std.proofs.Common.{◌≡◌, ℕ, zero, suc, ◌-◌, ◌*◌, ◌<◌, ◌≤◌, Bool, true, false, not, ◌&&◌, T, ltb, ℤ, sym, refl, ◌∙◌, subst, true≢false, le_trans, le_of_eq, mul-le-mul, mul-pos, le-ltb, leb-true}
use native.Mathlib.Nat.{mul-mul-mul_comm}
use lib.Ieee.{Float, nan, inf, fin, binary64, unlike, up, down, round, sum, add, mul, neg, lt, eq, le, fits}
use lib.Ieee.Bits.{is_true}
use lib.Ieee.Exact.{HasValue}
use lib.Ieee.Fits.{down_pos, round-fits}
use lib.Ieee.Order.{transfer, round_mono}
use lib.Ieee.Positive.{through}
use Rattle.numbers.specs.Small.{abs_of}
use Rattle.numbers.proofs.Compare.{le_test}
use Rattle.numbers.proofs.Rounding.{signed, round_signed, round-own}

abbrev pub Held : ℕ → ℕ → Type 0
Held a b = HasValue (round binary64 false a b) false a b

magnitude_fits : (s : Bool) (m : ℕ) (e : ℤ) → T (fits binary64 (fin s m e)) → T (fits binary64 (fin false m e))
unfolding fits
magnitude_fits s zero e t = t
magnitude_fits s (suc m) e t = t

pub held-own : (s : Bool) (m : ℕ) (e : ℤ) → T (fits binary64 (fin s m e)) → Held (m * up e) (down e)
held-own s m e t =
    subst (λ (x : Float). HasValue x false (m * up e) (down e)) (sym (round-own false m e (magnitude_fits s m e t))) (refl, refl)

pub data Between (s : Bool) (l k a b : ℕ) : Float → Type 0 where
  between : (m : ℕ) (e : ℤ) → T (fits binary64 (fin s m e)) → l * down e ≤ m * up e * k → m * up e * b ≤ a * down e → Between s l k a b (fin s m e)

pub widen : {s : Bool} {l k a b : ℕ} {x : Float} (l' k' a' b' : ℕ) → Between s l k a b x → 0 < k → 0 < b → l' * k ≤ l * k' → a * b' ≤ a' * b → Between s l' k' a' b' x
widen {s} {l} {k} {a} {b} l' k' a' b' (between m e t low high) K B p q =
    between m e t (through l' l (m * up e) k' k (down e) K p low) (through (m * up e) a a' (down e) b b' B high q)

-- ---- a rounded fraction

order : (m n : ℕ) (e d : ℤ) → T (le (fin false m e) (fin false n d)) → m * up e * down d ≤ n * up d * down e
unfolding le lt eq
order m n e d t = leb-true _ _ (sym (le_test (m * up e * down d) (n * up d * down e)) ∙ is_true _ t)

from_low : (low : Float) (l k m : ℕ) (e : ℤ) → HasValue low false l k → T (le low (fin false m e)) → l * down e ≤ m * up e * k
from_low nan l k m e v t = absurd v
from_low (inf s) l k m e v t = absurd v
from_low (fin true n d) l k m e v t = absurd (true≢false v.0)
from_low (fin false n d) l k m e v t =
    transfer l (m * up e) k (down e) (n * up d) (m * up e) (down d) (down e) (down_pos d) (down_pos e) (sym v.1) refl (order n m d e t)

to_high : (high : Float) (a b m : ℕ) (e : ℤ) → HasValue high false a b → T (le (fin false m e) high) → m * up e * b ≤ a * down e
to_high nan a b m e v t = absurd v
to_high (inf s) a b m e v t = absurd v
to_high (fin true n d) a b m e v t = absurd (true≢false v.0)
to_high (fin false n d) a b m e v t =
    transfer (m * up e) a (down e) b (m * up e) (n * up d) (down e) (down d) (down_pos e) (down_pos d) refl (sym v.1) (order m n e d t)

-- a magnitude between two floats, given a sign
lies : (s : Bool) (l k a b : ℕ) (low high x : Float) → HasValue low false l k → HasValue high false a b → T (le low (abs_of x)) → T (le (abs_of x) high) → T (fits binary64 (signed s x)) → Between s l k a b (signed s x)
unfolding abs_of neg
lies s l k a b low high nan v w p q t = unfold le in absurd q
lies s l k a b low nan (inf i) v w p q t = absurd w
lies s l k a b low (inf j) (inf i) v w p q t = absurd w
lies s l k a b low (fin j n d) (inf i) v w p q t = unfold le lt eq in absurd q
lies true l k a b low high (fin i m e) v w p q t = between m e t (from_low low l k m e v p) (to_high high a b m e w q)
lies false l k a b low high (fin i m e) v w p q t = between m e t (from_low low l k m e v p) (to_high high a b m e w q)

pub rounded : (s : Bool) (l k a b n d : ℕ) → 0 < k → 0 < b → 0 < d → Held l k → Held a b → l * d ≤ n * k → n * b ≤ a * d → Between s l k a b (round binary64 s n d)
rounded s l k a b n d K B D v w p q =
    let plus = round_signed binary64 false false n d in
    subst (λ (x : Float). Between s l k a b x) (round_signed binary64 s false n d)
    (lies s l k a b (round binary64 false l k) (round binary64 false a b) (round binary64 false n d) v w
    (subst (λ (x : Float). T (le (round binary64 false l k) x)) (sym plus) (round_mono binary64 l k n d K D p))
    (subst (λ (x : Float). T (le x (round binary64 false a b))) (sym plus) (round_mono binary64 n d a b D B q))
    (subst (λ (x : Float). T (fits binary64 x)) (sym (round_signed binary64 s false n d)) (round-fits binary64 s n d)))

-- ---- a product, the first factor not negative

factors : (l k v d l' k' v' d' : ℕ) → l * d ≤ v * k → l' * d' ≤ v' * k' → l * l' * (d * d') ≤ v * v' * (k * k')
factors l k v d l' k' v' d' p q =
    le_trans (le_of_eq (mul-mul-mul_comm l l' d d')) (le_trans (mul-le-mul p q) (le_of_eq (mul-mul-mul_comm v k v' k')))

sign_of_second : (s : Bool) → unlike false s ≡ s
sign_of_second true = refl
sign_of_second false = refl

pub product : (s : Bool) {l k a b l' k' a' b' : ℕ} {x y : Float} → Between false l k a b x → Between s l' k' a' b' y
    → 0 < k * k' → 0 < b * b' → Held (l * l') (k * k') → Held (a * a') (b * b') → Between s (l * l') (k * k') (a * a') (b * b') (mul binary64 x y)
unfolding mul
product s {l} {k} {a} {b} {l'} {k'} {a'} {b'} (between m e t p q) (between n d t' p' q') K B v w =
    subst (λ (r : Bool). Between s (l * l') (k * k') (a * a') (b * b') (round binary64 r (m * up e * (n * up d)) (down e * down d))) (sym (sign_of_second s))
    (rounded s (l * l') (k * k') (a * a') (b * b') (m * up e * (n * up d)) (down e * down d) K B (mul-pos (down_pos e) (down_pos d)) v w
    (factors l k (m * up e) (down e) l' k' (n * up d) (down d) p p') (factors (m * up e) (down e) a b (n * up d) (down d) a' b' q q'))

-- ---- a smaller magnitude taken away; one of the same size too, where the sign is plus
difference : (s : Bool) (a b c : ℕ) → b ≤ a → (s && ltb b a) ≡ s → sum binary64 s a (not s) b c ≡ round binary64 s (a - b) c
unfolding sum
difference true a b c h e = rw (le-ltb a b h, e)
difference false a b c h e = rw (le-ltb a b h)

pub less : (s : Bool) (m n : ℕ) (e d : ℤ) (l k a b : ℕ) → n * up d * down e ≤ m * up e * down d → (s && ltb (n * up d * down e) (m * up e * down d)) ≡ s → 0 < k → 0 < b → Held l k → Held a b
    → l * (down e * down d) ≤ (m * up e * down d - n * up d * down e) * k → (m * up e * down d - n * up d * down e) * b ≤ a * (down e * down d)
    → Between s l k a b (add binary64 (fin s m e) (fin (not s) n d))
unfolding add
less s m n e d l k a b h i K B v w p q =
    subst (λ (x : Float). Between s l k a b x) (sym (difference s (m * up e * down d) (n * up d * down e) (down e * down d) h i))
    (rounded s l k a b (m * up e * down d - n * up d * down e) (down e * down d) K B (mul-pos (down_pos e) (down_pos d)) v w p q)
