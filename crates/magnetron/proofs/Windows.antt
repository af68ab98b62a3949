-- The laws of `window`: what a loop leaves that works a part of one list out anew, a store each time round, whatever the signal.
--     tab-length, tab-at, tab_ext  the first n samples of a signal: how many, and which
--     window_none, window_more  with no sample stored it is the list; a store of sample i at base + i takes i samples to i + 1
--     window-next               such a store, of a list that is known to be so far
--     read_after, read_before   what such a loop reads of its own list, ahead of the store and before the part: what was there at first
-- Assumes nothing.
use mathlib.Core.Path.{◌≡◌, refl, sym, ap, ◌∙◌}
use mathlib.Core.Logic.{⊎_elim}
use mathlib.Core.List.{List, [], ◌∷◌, ◌++◌, append_assoc}
use Prim.Native.Nat.{ℕ, zero, suc, ◌+◌, ◌-◌, ◌<◌, ◌≤◌}
use native.Mathlib.Nat.{add-zero, add-suc, eq-or-lt_of_le, le_of_suc-le-suc}
use native.Mathlib.Numerals.{add-one}
use native.Mathlib.Omega.{arith}
use lib.ListN.{length, get_or, take, drop, set, length-append, take-append-drop, get_or-append}
use lib.Seq.{length-take-le, drop-cons, set_at, get_or_at, get_or-append-add, get_or-take, get_or-drop}
use Rattle.magnetron.specs.Signals.{tab, window}

module _ {A : Type 0} where
  pub tab-length : (n : ℕ) (g : ℕ → A) → length (tab n g) ≡ n
  unfolding tab
  tab-length zero g = refl
  tab-length (suc n) g = length-append (tab n g) (g n ∷ []) ∙ ap (λ (k : ℕ). k + 1) (tab-length n g) ∙ add-one n

  pub tab-at : (n : ℕ) (g : ℕ → A) (i : ℕ) (z : A) → i < n → get_or (tab n g) i z ≡ g i
  unfolding tab
  tab-at zero g i z h = absurd (omega arith)
  tab-at (suc n) g i z h =
      ⊎_elim
      (λ (e : i ≡ n). rw e (get_or_at (tab n g) (g n) [] z n (tab-length n g)))
      (λ (lt : i < n). get_or-append (tab n g) (g n ∷ []) z i (rw tab-length lt) ∙ tab-at n g i z lt)
      (eq-or-lt_of_le (le_of_suc-le-suc h))

  pub tab_ext : (n : ℕ) (g h : ℕ → A) → ((i : ℕ) → i < n → g i ≡ h i) → tab n g ≡ tab n h
  unfolding tab
  tab_ext zero g h e = refl
  tab_ext (suc n) g h e =
      let rest : tab n g ≡ tab n h = tab_ext n g h (λ i lt. e i (omega arith)) in
      let last : g n ≡ h n = e n (omega arith) in
      rw (rest, last)

  -- past a front of n elements
  past : (p q : List A) (n i : ℕ) (z : A) → length p ≡ n → get_or (p ++ q) (n + i) z ≡ get_or q i z
  past p q n i z e = rw (← e) (get_or-append-add p q i z)

  module _ (d : List A) (base : ℕ) where
    pub window_none : (g : ℕ → A) → d ≡ window d base 0 g
    unfolding window tab
    window_none g = rw add-zero (sym (take-append-drop base d))

    pub window_more : (i : ℕ) (g : ℕ → A) → base + i < length d → set (window d base i g) (base + i) (g i) ≡ window d base (i + 1) g
    unfolding window tab
    window_more i g h =
        let p : List A = take base d ++ tab i g in
        let long : length p ≡ base + i = simp (length-append, tab-length, length-take-le base d (omega arith)) in
        ap (λ (l : List A). set l (base + i) (g i)) (sym (append_assoc (take base d) (tab i g) (drop (base + i) d)) ∙ ap (λ (l : List A). p ++ l) (drop-cons d (base + i) (g i) h))
        ∙ set_at p (get_or d (base + i) (g i)) (drop (suc (base + i)) d) (g i) (base + i) long
        ∙ rw (add-one, add-suc) (simp append_assoc)

    window_before : (n : ℕ) (g : ℕ → A) (k : ℕ) (z : A) → base ≤ length d → k < base → get_or (window d base n g) k z ≡ get_or d k z
    unfolding window
    window_before n g k z fits h =
        get_or-append (take base d) (tab n g ++ drop (base + n) d) z k (rw (length-take-le base d fits) h) ∙ get_or-take base d k z h

    window-after : (n : ℕ) (g : ℕ → A) (k : ℕ) (z : A) → base ≤ length d → base + n ≤ k → get_or (window d base n g) k z ≡ get_or d k z
    unfolding window
    window-after n g k z fits h =
        let j : ℕ = k - (base + n) in
        let e : k ≡ base + (n + j) = omega arith in
        ap (λ (m : ℕ). get_or (window d base n g) m z) e
        ∙ past (take base d) (tab n g ++ drop (base + n) d) base (n + j) z (length-take-le base d fits)
        ∙ past (tab n g) (drop (base + n) d) n j z (tab-length n g)
        ∙ get_or-drop (base + n) d j z
        ∙ ap (λ (m : ℕ). get_or d m z) (omega arith)

    pub window-next : (g : ℕ → A) (i : ℕ) (l : List A) (v : A) → base + i < length d → l ≡ window d base i g → v ≡ g i → set l (base + i) v ≡ window d base (i + 1) g
    window-next g i l v h p q = rw (p, q) (window_more i g h)

    pub read_after : (g : ℕ → A) (i : ℕ) (l : List A) (k : ℕ) (z : A) → base ≤ length d → base + i ≤ k → l ≡ window d base i g → get_or l k z ≡ get_or d k z
    read_after g i l k z fits h p = rw p (window-after i g k z fits h)

    pub read_before : (g : ℕ → A) (i : ℕ) (l : List A) (k : ℕ) (z : A) → base ≤ length d → k < base → l ≡ window d base i g → get_or l k z ≡ get_or d k z
    read_before g i l k z fits h p = rw p (window_before i g k z fits h)
