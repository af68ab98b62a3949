-- Tests as facts.
--     holds, fails                      what a test of f's answer tells of what f ensures, where it holds and where it fails
--     and_left, and_right               what it tells that two tests passed
--     or_cases, or_other                what it tells that one of two passed
--     or_false_left, or_false_right     what it tells that neither did
-- Assumes nothing.
use mathlib.Core.Path.{◌≡◌, refl, sym, ◌∙◌}
use mathlib.Core.Logic.{◌⊎◌, inl, inr}
use mathlib.Core.Bool.{Bool, true, false, true≢false, ◌&&◌, ◌||◌, and-eq-true_iff}

pub holds : {r s : Bool} → r ≡ s → r ≡ true → s ≡ true
holds e h = sym e ∙ h

pub fails : {r s : Bool} → r ≡ s → r ≡ false → s ≡ false
fails e h = sym e ∙ h

pub and_left : (a b : Bool) → (a && b) ≡ true → a ≡ true
and_left a b h = ((and-eq-true_iff a b).0 h).0

pub and_right : (a b : Bool) → (a && b) ≡ true → b ≡ true
and_right a b h = ((and-eq-true_iff a b).0 h).1

pub or_cases : (a b : Bool) → (a || b) ≡ true → (a ≡ true) ⊎ (b ≡ true)
or_cases true b h = inl refl
or_cases false b h = inr h

-- of two tests, one that cannot hold
pub or_other : (a b : Bool) → (a || b) ≡ true → (a ≡ true → ⊥) → b ≡ true
or_other true b e h = absurd (h refl)
or_other false b e h = e

pub or_false_left : (a b : Bool) → (a || b) ≡ false → a ≡ false
or_false_left true b h = h
or_false_left false b h = refl

pub or_false_right : (a b : Bool) → (a || b) ≡ false → b ≡ false
or_false_right true b h = absurd (true≢false h)
or_false_right false b h = h
