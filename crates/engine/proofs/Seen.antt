-- Check 3 in one walk: a word in which each stage seen has its bit, and whether a number to come was seen, or comes twice.
-- Assumes nothing.
use mathlib.Core.Path.{◌≡◌, refl, sym, ap, ap₂, ◌∙◌}
use mathlib.Core.Bool.{Bool, true, false, ◌||◌, or-true, or_assoc}
use mathlib.Core.List.{List, [], ◌∷◌}
use Prim.Native.Nat.{ℕ, zero, suc, ◌+◌, ◌*◌, ◌/◌, ◌%◌, ◌^◌, ◌≤◌, ◌<◌, min}
use native.Mathlib.Nat.{min-zero, mod-lt, add-zero, lt_of_lt_of_le}
use native.Mathlib.Numerals.{add-one}
use native.Mathlib.Omega.{arith}
use lib.Dec.{eqb, eqb-zero-suc, eqb-suc-zero, eqb-suc-suc}
use lib.Arith.{lt-one}
use lib.Bits.{bit_and, bit_or, and_step, and_mask, or_shr, or_mod, shifted_half, shifted_even}
use lib.Pow.{pow_pos, pow_mono, shl_exact, shr_lt}
use borrow.Author.Tests.{eqb-false}
use Rattle.engine.specs.Run.{holds, repeats}

-- whether bit k of a word is set
abbrev has : ℕ → ℕ → Bool
has s zero = eqb (s % 2) 1
has s (suc k) = has (s / 2) k

-- whether a number to come has its bit set
abbrev met : ℕ → List ℕ → Bool
met s [] = false
met s (x ∷ xs) = has s x || met s xs

-- ---- a word's bits

digit : (n : ℕ) → n % 2 < 2
digit n = mod-lt n (omega arith)

either : (a b : ℕ) → a < 2 → b < 2 → eqb (bit_or a b) 1 ≡ (eqb a 1 || eqb b 1)
either zero zero h k = refl
either zero (suc zero) h k = refl
either (suc zero) zero h k = refl
either (suc zero) (suc zero) h k = refl
either (suc (suc a)) b h k = absurd (omega arith)
either zero (suc (suc b)) h k = absurd (omega arith)
either (suc zero) (suc (suc b)) h k = absurd (omega arith)

joined : (k a b : ℕ) → has (bit_or a b) k ≡ (has a k || has b k)
joined zero a b = ap (λ (x : ℕ). eqb x 1) (or_mod a b 1) ∙ either _ _ (digit a) (digit b)
joined (suc k) a b = ap (λ (x : ℕ). has x k) (or_shr a b 1) ∙ joined k (a / 2) (b / 2)

-- a number of k digits has no bit k
above : (k s : ℕ) → s < 2 ^ k → has s k ≡ false
above zero s h = ap (λ (x : ℕ). eqb (x % 2) 1) (lt-one h)
above (suc k) s h = above k (s / 2) (shr_lt k 1 (rw add-one h))

-- `1 << k` has bit k alone
alone : (k x : ℕ) → has (1 * 2 ^ k) x ≡ eqb k x
alone zero zero = refl
alone zero (suc x) = above x 0 (pow_pos x) ∙ sym (eqb-zero-suc x)
alone (suc k) zero = ap (λ (y : ℕ). eqb y 1) (shifted_even 1 k) ∙ sym (eqb-suc-zero k)
alone (suc k) (suc x) = ap (λ (y : ℕ). has y x) (shifted_half 1 k) ∙ alone k x ∙ sym (eqb-suc-suc k x)

masked : (k s : ℕ) → bit_and s (1 * 2 ^ suc k) ≡ bit_and (s / 2) (1 * 2 ^ k) * 2
masked k s =
    and_step s (1 * 2 ^ suc k)
    ∙ ap₂ (λ (x y : ℕ). bit_and (s / 2) x * 2 + min (s % 2) y) (shifted_half 1 k) (shifted_even 1 k)
    ∙ ap (λ (x : ℕ). bit_and (s / 2) (1 * 2 ^ k) * 2 + x) (min-zero (s % 2))
    ∙ add-zero _

unmet : (k s : ℕ) → bit_and s (1 * 2 ^ k) ≡ 0 → has s k ≡ false
unmet zero s e = ap (λ (x : ℕ). eqb x 1) (sym (and_mask s 1) ∙ e)
unmet (suc k) s e = unmet k (s / 2) (omega (arith, masked k s, e))

unseen : (k s : ℕ) → has s k ≡ false → bit_and s (1 * 2 ^ k) ≡ 0
unseen zero s e = and_mask s 1 ∙ omega (arith, digit s, eqb-false (s % 2) 1 e)
unseen (suc k) s e = omega (arith, masked k s, unseen k (s / 2) e)

seen : (k s : ℕ) → (bit_and s (1 * 2 ^ k) ≡ 0 → ⊥) → has s k ≡ true
seen k s h = go (has s k) refl
  where
    go : (b : Bool) → has s k ≡ b → b ≡ true
    go true e = refl
    go false e = absurd (h (unseen k s e))

-- ---- the walk

exchange : (a b c d : Bool) → ((a || b) || (c || d)) ≡ ((a || c) || (b || d))
exchange true b c d = refl
exchange false true c d = sym (or-true c)
exchange false false c d = refl

with_bit : (k s : ℕ) (xs : List ℕ) → met (bit_or s (1 * 2 ^ k)) xs ≡ (met s xs || holds k xs)
with_bit k s [] = refl
with_bit k s (x ∷ xs) = rw (joined x s (1 * 2 ^ k), alone k x, with_bit k s xs) (exchange (has s x) (eqb k x) (met s xs) (holds k xs))

-- whether a number to come was seen, or comes twice
pub again : ℕ → List ℕ → Bool
again s ks = met s ks || repeats ks

none : (ks : List ℕ) → met 0 ks ≡ false
none [] = refl
none (k ∷ ks) = rw (above k 0 (pow_pos k)) (none ks)

pub none_seen : (ks : List ℕ) → again 0 ks ≡ repeats ks
unfolding again
none_seen ks = ap (λ (b : Bool). b || repeats ks) (none ks)

pub none_left : (s : ℕ) → again s [] ≡ false
unfolding again
none_left s = refl

-- a number that has its bit in the word, or whose bit the word takes in
module _ (s k : ℕ) (ks : List ℕ) (h : k < 32) where
  abbrev bit : ℕ
  bit = 1 * 2 ^ k % 2 ^ 32

  exact : bit ≡ 1 * 2 ^ k
  exact = shl_exact 1 k 32 (omega arith) (omega arith)

  pub was_seen : (bit_and s bit ≡ 0 → ⊥) → true ≡ again s (k ∷ ks)
  unfolding again
  was_seen t = rw (seen k s (λ e. t (rw exact e))) refl

  pub taken_in : bit_and s bit ≡ 0 → again (bit_or s bit) ks ≡ again s (k ∷ ks)
  unfolding again
  taken_in t = rw (unmet k s (sym (ap (bit_and s) exact) ∙ t), exact, with_bit k s ks) (or_assoc (met s ks) (holds k ks) (repeats ks))

-- a number that has none
module _ (s k : ℕ) (ks : List ℕ) where
  pub comes_later : true ≡ holds k ks → true ≡ again s (k ∷ ks)
  unfolding again
  comes_later e = rw (sym e) (sym (or-true (has s k || met s ks)))

  pub passes : s < 2 ^ 32 → 32 ≤ k → false ≡ holds k ks → again s ks ≡ again s (k ∷ ks)
  unfolding again
  passes l h e = rw (above k s (lt_of_lt_of_le l (pow_mono h)), sym e) refl
