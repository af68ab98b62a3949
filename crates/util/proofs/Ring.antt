-- Places of a ring.
--     InRing, within     what it tells that the test passed which a single operation begins with
--     once_round         a place up to twice the length, by a difference
-- Assumes nothing.
use Rattle.std.proofs.Common.{◌≡◌, ℕ, ◌+◌, ◌-◌, ◌%◌, ◌<◌, ◌≤◌, Bool, true, ltb, leb, sym, ◌∙◌, mod-eq_of_lt, arith, ltb-true, leb-true}
use mathlib.Core.Bool.{and-eq-true_iff}
use native.Mathlib.Nat.{mod-eq-sub-mod}
use Rattle.util.specs.DelayLine.{in_ring}

pub record InRing (position slots : ℕ) : Type 0 where
  pub small : slots ≤ 32768
  pub below : position < slots

pub within : {b : Bool} (position slots : ℕ) → b ≡ in_ring position slots → b ≡ true → InRing position slots
unfolding in_ring
within position slots e left =
    let t = (and-eq-true_iff (leb slots 32768) (ltb position slots)).0 (sym e ∙ left) in
    record { small = leb-true _ _ t.0; below = ltb-true _ _ t.1 }

pub once_round : {k n : ℕ} → n ≤ k → k < n + n → k - n ≡ k % n
once_round h l = sym (mod-eq-sub-mod h ∙ mod-eq_of_lt (omega arith))
