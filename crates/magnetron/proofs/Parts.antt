-- Parts of a flat list that do not overlap.
--     read_apart, store_apart   a store is not seen in the other part, and two stores change places; nothing is asked of the list's
--                               length, since a store past the end does nothing
--     product_le, within        a product of bounded factors; n samples of buffer i lie in a pool of count buffers
--     apart_or_empty, buffers_apart   two buffers of one pool, or one with itself where the window is empty
-- Assumes nothing.
use mathlib.Core.Path.{◌≡◌, refl, sym, ap, ◌∙◌}
use mathlib.Core.Logic.{◌≢◌, ◌⊎◌, inl, inr, ⊎_elim}
use mathlib.Core.Bool.{Bool, true, false}
use mathlib.Core.List.{List, [], ◌∷◌}
use Prim.Native.Nat.{ℕ, zero, suc, ◌+◌, ◌*◌, ◌≤◌, ◌<◌}
use native.Mathlib.Nat.{le_trans, mul-le-mul_left, mul-le-mul_right, suc-mul, eq-or-lt_of_le, eq-zero-or-pos}
use native.Mathlib.Omega.{arith}
use lib.Dec.{ltb}
use lib.ListN.{length, set, take, drop, length-take}
use lib.Seq.{sets, set_comm, take-set-le, drop-set-lt}
use borrow.Author.Tests.{ltb-true, ltb-false}
use Rattle.magnetron.specs.Inside.Source.{Apart}

module _ {A : Type 0} where
  pub set-sets : (l vs : List A) (i j : ℕ) (a : A) → j < i → set (sets l i vs) j a ≡ sets (set l j a) i vs
  set-sets l [] i j a h = refl
  set-sets l (b ∷ vs) i j a h =
      set-sets (set l i b) vs (suc i) j a (omega arith)
      ∙ ap (λ (m : List A). sets m (suc i) vs) (set_comm l i j b a (omega arith))

  sets-sets : (l vs ws : List A) (i j : ℕ) → i + length vs ≤ j → sets (sets l i vs) j ws ≡ sets (sets l j ws) i vs
  sets-sets l [] ws i j h = refl
  sets-sets l (a ∷ vs) ws i j h =
      sets-sets (set l i a) vs ws (suc i) j (omega arith)
      ∙ ap (λ (m : List A). sets m (suc i) vs) (sym (set-sets l ws j i a (omega arith)))

  part_set : (l : List A) (n i j : ℕ) (a : A) → i + n ≤ j → take n (drop i (set l j a)) ≡ take n (drop i l)
  part_set l n zero j a h = take-set-le n l j a (omega arith)
  part_set [] n (suc i) j a h = refl
  part_set (x ∷ xs) n (suc i) zero a h = absurd (omega arith)
  part_set (x ∷ xs) n (suc i) (suc j) a h = part_set xs n i j a (omega arith)

  part_sets_before : (l ws : List A) (n i j : ℕ) → i + n ≤ j → take n (drop i (sets l j ws)) ≡ take n (drop i l)
  part_sets_before l [] n i j h = refl
  part_sets_before l (a ∷ ws) n i j h = part_sets_before (set l j a) ws n i (suc j) (omega arith) ∙ part_set l n i j a h

  drop_sets_after : (l ws : List A) (i j : ℕ) → j + length ws ≤ i → drop i (sets l j ws) ≡ drop i l
  drop_sets_after l [] i j h = refl
  drop_sets_after l (a ∷ ws) i j h = drop_sets_after (set l j a) ws i (suc j) (omega arith) ∙ drop-set-lt i l j a (omega arith)

  -- what is read at i is not changed by a store at j of at most n values
  pub read_apart : (l ws : List A) (m i n j : ℕ) → Apart i m j n → take m (drop i (sets l j (take n ws))) ≡ take m (drop i l)
  read_apart l ws m i n j (inl h) = part_sets_before l (take n ws) m i j h
  read_apart l ws m i n j (inr h) = ap (take m) (drop_sets_after l (take n ws) i j (omega (arith, length-take n ws)))

  -- two stores change places
  pub store_apart : (l vs ws : List A) (m i n j : ℕ) → Apart i m j n
      → sets (sets l j (take n ws)) i (take m vs) ≡ sets (sets l i (take m vs)) j (take n ws)
  store_apart l vs ws m i n j (inl h) = sym (sets-sets l (take m vs) (take n ws) i j (omega (arith, length-take m vs)))
  store_apart l vs ws m i n j (inr h) = sets-sets l (take n ws) (take m vs) j i (omega (arith, length-take n ws))

-- ---- buffers of one pool

pub product_le : {a b c d : ℕ} → a ≤ b → c ≤ d → a * c ≤ b * d
product_le {a} {b} {c} {d} h k = le_trans (mul-le-mul_right c h) (mul-le-mul_left b k)

pub within : (i count n capacity : ℕ) → i < count → n ≤ capacity → i * capacity + n ≤ count * capacity
within i count n capacity h k = omega (arith, suc-mul i capacity, mul-le-mul_right capacity h)

below_or_not : (i j : ℕ) → (i < j) ⊎ (j ≤ i)
below_or_not i j = go (ltb i j) refl
  where
    go : (v : Bool) → ltb i j ≡ v → (i < j) ⊎ (j ≤ i)
    go true e = inl (ltb-true i j e)
    go false e = inr (ltb-false i j e)

pub apart_or_empty : (i j n capacity : ℕ) → n ≤ capacity → (0 < n → i ≢ j) → Apart (i * capacity) n (j * capacity) n
apart_or_empty i j n capacity fits d =
    ⊎_elim
    (λ (h : i < j). inl (within i j n capacity h fits))
    (λ (h : j ≤ i). ⊎_elim same (λ (l : j < i). inr (within j i n capacity l fits)) (eq-or-lt_of_le h))
    (below_or_not i j)
  where
    same : j ≡ i → Apart (i * capacity) n (j * capacity) n
    same e = ⊎_elim (λ (z : n ≡ 0). inl (rw e (omega arith))) (λ (l : 0 < n). absurd (d l (sym e))) (eq-zero-or-pos n)

pub buffers_apart : (i j n capacity : ℕ) → n ≤ capacity → i ≢ j → Apart (i * capacity) n (j * capacity) n
buffers_apart i j n capacity fits d = apart_or_empty i j n capacity fits (λ _. d)
