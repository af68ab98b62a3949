-- A part of a list that is worked out anew, sample by sample. A signal is a function of the sample's number.
--     tab         the first n samples of a signal, as a list
--     window      d, with the n elements from base on replaced by a signal's first n
--     state_at     the state before sample i of a machine that takes a state and a sample to the next state
-- Assumes nothing.
use Rattle.std.specs.Prelude.{List, [], ◌∷◌, ◌++◌, ℕ, zero, suc, ◌+◌, take, drop}

unfoldable pub tab : {A : Type 0} → ℕ → (ℕ → A) → List A
tab zero g = []
tab (suc n) g = tab n g ++ (g n ∷ [])

unfoldable pub window : {A : Type 0} → List A → ℕ → ℕ → (ℕ → A) → List A
window d base n g = take base d ++ (tab n g ++ drop (base + n) d)

unfoldable pub state_at : {S X : Type 0} → (S → X → S) → S → (ℕ → X) → ℕ → S
state_at next s x zero = s
state_at next s x (suc i) = next (state_at next s x i) (x i)

-- the signal that such a machine answers
abbrev pub machine : {S X Y : Type 0} → (S → X → S) → (S → X → Y) → S → (ℕ → X) → ℕ → Y
machine next out s x i = out (state_at next s x i) (x i)
