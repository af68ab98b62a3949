-- The scan of the lent zeros: a list of differences, one of them less one sample, and what they tell with the samples that are left; and samples by
-- eights. Assumes nothing.
use Rattle.std.proofs.Common.{◌≡◌, ℕ, zero, suc, ◌+◌, ◌*◌, ◌<◌, Bool, ◌&&◌, List, [], ◌∷◌, ◌++◌, length, get_or, take, drop, set, add-one, refl, arith, drop-cons, drop-drop}
use Rattle.std.proofs.lemmas.List.{take-append-drop}
use Rattle.std.specs.List.{list_all}
use Rattle.std.specs.Simd.{first_chunks}
use mathlib.Core.Bool.{and_assoc, and_comm}
use lib.Ieee.{Float, nan}
use Rattle.numbers.specs.Zeros.{is_plus_zero, all_plus_zero}
use Rattle.numbers.specs.Inside.{is_minus_zero, all_minus_zero}

-- the word for all of a list, in the library's
pub all_of_list : (l : List Float) → list_all is_minus_zero l ≡ all_minus_zero l
unfolding all_minus_zero
all_of_list [] = refl
all_of_list (x ∷ l) = rw (all_of_list l)

-- the samples from i on: the first, and the rest
sample-next : (s : List Float) (i : ℕ) → i < length s → all_plus_zero (drop i s) ≡ (is_plus_zero (get_or s i nan) && all_plus_zero (drop (i + 1) s))
unfolding all_plus_zero
sample-next s i h = rw (add-one, drop-cons s i nan h)

-- ---- one step

-- a difference less a number
less_one : (l : List Float) (k : ℕ) (r : Float) (p : Bool) → k < length l → is_minus_zero r ≡ (is_minus_zero (get_or l k nan) && p) → all_minus_zero (set l k r) ≡ (all_minus_zero l && p)
unfolding all_minus_zero
less_one [] k r p h e = absurd (omega arith)
less_one (x ∷ l) zero r p h e = simp (e, and_assoc) (rw (and_comm p (all_minus_zero l)))
less_one (x ∷ l) (suc k) r p h e = rw (less_one l k r p (omega arith) e, and_assoc)

-- the difference k less sample i: the differences and the samples past i tell what they and the samples from i on told
pub less_step : (l s : List Float) (k i : ℕ) (r : Float) → k < length l → i < length s → is_minus_zero r ≡ (is_minus_zero (get_or l k nan) && is_plus_zero (get_or s i nan))
    → (all_minus_zero (set l k r) && all_plus_zero (drop (i + 1) s)) ≡ (all_minus_zero l && all_plus_zero (drop i s))
less_step l s k i r h g e = rw (less_one l k r (is_plus_zero (get_or s i nan)) h e, sample-next s i g, and_assoc)

-- ---- eight at a time

pub all_apart : (s t : List Float) → all_plus_zero (s ++ t) ≡ (all_plus_zero s && all_plus_zero t)
unfolding all_plus_zero
all_apart [] t = refl
all_apart (x ∷ s) t = rw (all_apart s t, and_assoc)

eight_at : (n i : ℕ) (s d : List Float) → i < n → get_or (first_chunks 8 n s) i d ≡ take 8 (drop (i * 8) s)
eight_at zero i s d h = absurd (omega arith)
eight_at (suc n) zero s d h = refl
eight_at (suc n) (suc i) s d h =
    let next : 8 + i * 8 ≡ suc i * 8 = omega arith in
    rw (eight_at n i (drop 8 s) d (omega arith), drop-drop (i * 8) 8 s, next)

eights_next : (i : ℕ) (s : List Float) → drop 8 (drop (i * 8) s) ≡ drop ((i + 1) * 8) s
eights_next i s =
    let next : i * 8 + 8 ≡ (i + 1) * 8 = omega arith in
    rw (drop-drop 8 (i * 8) s, next)

-- the differences less eight samples, and the samples past these, tell what the differences and the samples from these on told
pub eight_step : (n i : ℕ) (s d : List Float) (before after : Bool) → i < n → after ≡ (before && all_plus_zero (get_or (first_chunks 8 n s) i d))
    → (after && all_plus_zero (drop ((i + 1) * 8) s)) ≡ (before && all_plus_zero (drop (i * 8) s))
eight_step n i s d before after h e =
    let t = drop (i * 8) s in
    rw (e, eight_at n i s d h, ← eights_next i s, and_assoc, ← all_apart (take 8 t) (drop 8 t), take-append-drop 8 t)
