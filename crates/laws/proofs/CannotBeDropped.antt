-- The premise of `safe_orders` that tied stages keep their sequence cannot be dropped.
--
-- Stages 1, 2 and 3 pass 1e16, -1e16 and 1 to one buffer that holds 0. None of them reads what another writes: they are tied by that buffer
-- alone. The orders 1, 2, 3 and 1, 3, 2 have the same numbers, each once, and both are accepted. The first ends with 1 in the buffer, the second
-- with 0, since 1e16 + 1 rounds to 1e16. These are the two runs of case 12 in the table of listed cases.
-- Assumes nothing.
use mathlib.Core.Path.{◌≡◌, sym, ap, ◌∙◌}
use mathlib.Core.Logic.{◌≢◌, ◌⊎◌, inl, inr, ⊎_elim}
use mathlib.Core.Bool.{false, false≢true}
use mathlib.Core.List.{List, [], ◌∷◌}
use Prim.Native.Nat.{ℕ}
use native.Mathlib.Omega.{arith}
use lib.ListN.{get_or, drop}
use lib.Ieee.{Float, nan, of_int, round}
use Rattle.numbers.specs.Zeros.{is_plus_zero}
use Rattle.order.specs.Order.{Among, Once, SameOrder}
use Rattle.std.specs.Prelude.{Result}
use Rattle.answers.specs.Refusal.{told_of}
use Rattle.answers.specs.declared.activity.StageActivity.{StageActivity}
use Rattle.answers.specs.declared.refusal.Refusal.{Refusal}
use Rattle.engine.specs.Run.{After}
use Rattle.laws.specs.Cases.{added, terms, Holds, All, table}
use Rattle.laws.proofs.Listed.{listed, from}

-- a window of one sample along an order; the buffers are case 12's
abbrev run : List ℕ → After
run = added terms 1

abbrev Refused : List ℕ → Type 0
Refused order = (told_of (run order).ran.answer).number ≢ 0

-- `safe_orders` for this patch and these buffers, with no two stages tied
abbrev WithoutTies : Type 0
WithoutTies = (xs ys : List ℕ) → SameOrder (λ j k. false) xs ys → (Refused xs × Refused ys) ⊎ (run xs ≡ run ys)

abbrev kept : List ℕ
kept = 1 ∷ 2 ∷ 3 ∷ []

abbrev swapped : List ℕ
swapped = 1 ∷ 3 ∷ 2 ∷ []

-- ---- the two runs: case 12 of the table

twelve : All (drop 12 table)
twelve = from 12 table listed

accepted : (told_of (run kept).ran.answer).number ≡ 0
unfolding All Holds table
accepted = ap (λ (a : Result StageActivity Refusal). (told_of a).number) twelve.0.0

differ : run kept ≢ run swapped
unfolding All Holds table is_plus_zero of_int round
differ e = false≢true (ap (λ (l : List Float). is_plus_zero (get_or l 0 nan)) (sym twelve.0.1 ∙ ap (λ (l : After). l.internal) e ∙ twelve.1.0.1))

-- ---- the two orders: the same numbers, each once

once : (x y z : ℕ) → x ≢ y → x ≢ z → y ≢ z → Once (x ∷ y ∷ z ∷ [])
once x y z xy xz yz = (⊎_elim xy (⊎_elim xz (λ m. m)), (⊎_elim yz (λ m. m), (λ m. m, tt)))

members : (a x y z : ℕ) → Among a (x ∷ y ∷ z ∷ []) → Among a (x ∷ z ∷ y ∷ [])
members a x y z (inl e) = inl e
members a x y z (inr (inl e)) = inr (inr (inl e))
members a x y z (inr (inr (inl e))) = inr (inl e)
members a x y z (inr (inr (inr m))) = absurd m

reordered : SameOrder (λ j k. false) kept swapped
reordered = record {
  once_left = once 1 2 3 (λ e. omega arith) (λ e. omega arith) (λ e. omega arith);
  once_right = once 1 3 2 (λ e. omega arith) (λ e. omega arith) (λ e. omega arith);
  members = λ a. (members a 1 2 3, members a 1 3 2);
  sequence = λ a b e. absurd (false≢true e);
}

pub cannot_be_dropped : ¬ WithoutTies
cannot_be_dropped law = ⊎_elim (λ r. r.0 accepted) differ (law kept swapped reordered)
