-- Checks that come one after the other, and checks along an order, all of them before the first step. A check answers nothing, or a refusal.
-- Assumes nothing.
use Rattle.std.specs.Prelude.{Bool, true, false, List, [], ◌∷◌}
use Rattle.std.proofs.Math.Option.{Option, none, some}

module _ {R : Type 0} where
  -- refused with r where the test fails
  abbrev pub unless : Bool → R → Option R
  unless true r = none
  unless false r = some r

  -- the first refusal of two
  abbrev pub first : Option R → Option R → Option R
  first none o = o
  first (some r) o = some r

  abbrev pub passed : Option R → Bool
  passed none = true
  passed (some r) = false

-- `fault a m` is what is wrong with a at its turn, where m is what the checks know by then; `turn a m` is what they know after it.
-- The verdict is the first refusal along the order.
module _ {A M R : Type 0} where
  abbrev pub verdict : (A → M → Option R) → (A → M → M) → List A → M → Option R
  verdict fault turn [] m = none
  verdict fault turn (x ∷ xs) m = first (fault x m) (verdict fault turn xs (turn x m))
