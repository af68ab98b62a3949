-- From what a loop leaves (`window`, a signal) to what the definitions say (lines: lists of n samples, `sets`).
--     part_tab, tab_of, replicate-tab, map-tab, zip_tab    lists as the first n samples of a signal
--     window-sets     a signal's first n samples stored from base on
--     line_window     a line laid over a buffer is what the loop through `mix` leaves there
--     heard-tab       what is heard of a buffer, as a signal
--     state_at_same, machine_same     a machine on two inputs that agree on the first n samples
-- Assumes nothing.
use mathlib.Core.Path.{◌≡◌, refl, sym, ap, ap₂, ◌∙◌}
use mathlib.Core.Bool.{Bool, true, false, cond}
use mathlib.Core.List.{List, [], ◌∷◌, ◌++◌, append_assoc, map, zip_with}
use Prim.Native.Nat.{ℕ, zero, suc, ◌+◌, ◌<◌, ◌≤◌}
use native.Mathlib.Nat.{zero-add}
use native.Mathlib.Numerals.{add-one}
use native.Mathlib.Omega.{arith}
use lib.ListN.{length, get_or, take, drop, length-drop, replicate, replicate-append-replicate}
use lib.Seq.{sets, sets-eq, take_all, take-suc, get_or-drop}
use lib.Ieee.{Float, nan, binary64, add, mul}
use Rattle.numbers.specs.Constants.{zero64}
use Rattle.magnetron.specs.Buffers.{heard, laid}
use Rattle.magnetron.specs.Signals.{tab, window, state_at, machine}
use Rattle.magnetron.specs.Inside.Mix.{from, mixed}
use Rattle.magnetron.specs.Single.{levelled}
use Rattle.magnetron.proofs.Windows.{tab-length, tab_ext}

module _ {A : Type 0} where
  pub part_tab : (d : List A) (base n : ℕ) (z : A) → base + n ≤ length d → take n (drop base d) ≡ tab n (λ i. get_or d (base + i) z)
  unfolding tab
  part_tab d base zero z h = refl
  part_tab d base (suc n) z h =
      take-suc (drop base d) n z (omega (arith, length-drop base d))
      ∙ ap₂ (λ (l : List A) (x : A). l ++ (x ∷ [])) (part_tab d base n z (omega arith)) (get_or-drop base d n z)

  -- a list of n elements, each of which is the signal's
  pub tab_of : (l : List A) (n : ℕ) (g : ℕ → A) (z : A) → length l ≡ n → ((k : ℕ) → k < n → get_or l k z ≡ g k) → l ≡ tab n g
  tab_of l n g z long each = sym (take_all n l (omega (arith, long))) ∙ part_tab l 0 n z (omega (arith, long))
      ∙ tab_ext n _ g (λ k h. ap (λ (j : ℕ). get_or l j z) (zero-add k) ∙ each k h)

  pub replicate-tab : (n : ℕ) (a : A) → replicate n a ≡ tab n (λ i. a)
  unfolding tab
  replicate-tab zero a = refl
  replicate-tab (suc n) a = ap (λ (k : ℕ). replicate k a) (sym (add-one n)) ∙ sym (replicate-append-replicate n 1 a) ∙ ap (λ (l : List A). l ++ (a ∷ [])) (replicate-tab n a)

  pub window-sets : (d : List A) (base n : ℕ) (g : ℕ → A) → base + n ≤ length d → sets d base (take n (tab n g)) ≡ window d base n g
  unfolding window
  window-sets d base n g h =
      ap (λ (l : List A). sets d base l) (take_all n (tab n g) (omega (arith, tab-length n g)))
      ∙ sets-eq (tab n g) d base (omega (arith, tab-length n g))
      ∙ append_assoc (take base d) (tab n g) (drop (base + length (tab n g)) d)
      ∙ ap (λ (m : ℕ). take base d ++ (tab n g ++ drop (base + m) d)) (tab-length n g)

map-append : {A B : Type 0} (f : A → B) (p : List A) (x : A) → map f (p ++ (x ∷ [])) ≡ map f p ++ (f x ∷ [])
map-append f [] x = refl
map-append {B = B} f (a ∷ p) x = ap (λ (l : List B). f a ∷ l) (map-append f p x)

pub map-tab : {A B : Type 0} (f : A → B) (n : ℕ) (g : ℕ → A) → map f (tab n g) ≡ tab n (λ i. f (g i))
unfolding tab
map-tab f zero g = refl
map-tab {B = B} f (suc n) g = map-append f (tab n g) (g n) ∙ ap (λ (l : List B). l ++ (f (g n) ∷ [])) (map-tab f n g)

zip_append : {A B C : Type 0} (f : A → B → C) (p : List A) (q : List B) (x : A) (y : B) → length p ≡ length q
    → zip_with f (p ++ (x ∷ [])) (q ++ (y ∷ [])) ≡ zip_with f p q ++ (f x y ∷ [])
unfolding zip_with
zip_append f [] [] x y e = refl
zip_append f [] (b ∷ q) x y e = absurd (omega arith)
zip_append f (a ∷ p) [] x y e = absurd (omega arith)
zip_append {C = C} f (a ∷ p) (b ∷ q) x y e = ap (λ (l : List C). f a b ∷ l) (zip_append f p q x y (omega arith))

pub zip_tab : {A B C : Type 0} (f : A → B → C) (n : ℕ) (g : ℕ → A) (h : ℕ → B) → zip_with f (tab n g) (tab n h) ≡ tab n (λ i. f (g i) (h i))
unfolding tab zip_with
zip_tab f zero g h = refl
zip_tab {C = C} f (suc n) g h =
    zip_append f (tab n g) (tab n h) (g n) (h n) (tab-length n g ∙ sym (tab-length n h))
    ∙ ap (λ (l : List C). l ++ (f (g n) (h n) ∷ [])) (zip_tab f n g h)

module _ (d : List Float) (base n : ℕ) (fits : base + n ≤ length d) where
  pub line_window : (stale : Bool) (level : Float) (y : ℕ → Float)
      → sets d base (take n (laid (record { stale = stale; samples = take n (drop base d) }) (levelled level (tab n y))).samples)
      ≡ window d base n (mixed d base stale level y)
  unfolding laid
  line_window true level y = rw (map-tab (λ (x : Float). mul binary64 x level)) (window-sets d base n _ fits)
  line_window false level y =
      rw (map-tab (λ (x : Float). mul binary64 x level), part_tab d base n nan, zip_tab (add binary64)) (window-sets d base n _ fits)

  pub heard-tab : (stale : Bool) → heard n (record { stale = stale; samples = take n (drop base d) }) ≡ tab n (λ i. cond stale zero64 (from d base i))
  unfolding heard
  heard-tab true = replicate-tab n zero64
  heard-tab false = part_tab d base n nan fits

module _ {S X : Type 0} (next : S → X → S) (s : S) (x y : ℕ → X) where
  pub state_at_same : (n : ℕ) → ((i : ℕ) → i < n → x i ≡ y i) → state_at next s x n ≡ state_at next s y n
  unfolding state_at
  state_at_same zero e = refl
  state_at_same (suc n) e = ap₂ next (state_at_same n (λ i h. e i (omega arith))) (e n (omega arith))

  pub machine_same : {Y : Type 0} (out : S → X → Y) (n : ℕ) → ((i : ℕ) → i < n → x i ≡ y i) → (i : ℕ) → i < n → machine next out s x i ≡ machine next out s y i
  machine_same out n e i h = ap₂ out (state_at_same i (λ j l. e j (omega arith))) (e i h)
