-- A level whose other is there, and asks along a list, up to the first that is missing. Assumes nothing.
use Rattle.std.proofs.Common.{◌≡◌, ◌≢◌, ℕ, ◌+◌, ◌<◌, ◌≤◌, true, false, List, [], ◌∷◌, length, get_or, drop, Option, Some, None, Ok, Err, refl, add-one}
use Rattle.std.proofs.Math.ListN.{drop_of_length-le}
use Rattle.std.proofs.Math.Seq.{drop-cons}
use lib.Ieee.{Float}
use Rattle.answers.specs.Refusal.{result_of}
use Rattle.microwave.specs.Parameter.{looked, required, of_pair, ask_list, all_found, asks_refused}
use Rattle.answers.specs.declared.refusal.Reason.TheVariants as reason
use Rattle.microwave.specs.declared.parameter.Parameter.{Parameter}
use Rattle.microwave.specs.declared.parameter.Parameter.TheVariants.{Fixed, Slot, WindowSeconds, Absent}
use Rattle.microwave.specs.declared.parameter.Ask.{Ask}
use Rattle.microwave.specs.declared.parameter.Asks.{Asks}
use Rattle.microwave.specs.declared.parameter.Asks.TheVariants.{Nothing, One, Two, Three}

-- ---- one level of a pair

pub other_there : (level other : Parameter) → other ≢ Absent → required level ≡ of_pair level other
other_there level (Fixed x) h = refl
other_there level (Slot i) h = refl
other_there level WindowSeconds h = refl
other_there level Absent h = absurd (h refl)

-- ---- asks by their list

abbrev pub asked : List Ask → Asks
asked [] = Nothing
asked (a ∷ []) = One a
asked (a ∷ b ∷ []) = Two a b
asked (a ∷ b ∷ c ∷ more) = Three a b c

pub as_asked : (asks : Asks) → asked (ask_list asks) ≡ asks
as_asked Nothing = refl
as_asked (One a) = refl
as_asked (Two a b) = refl
as_asked (Three a b c) = refl

-- ---- along a list, up to the first that is missing

module _ (values : List Float) (seconds : Float) where
  pub none_found : (f : Option Float) (ask : Ask) (asks : List Ask) → f ≡ looked ask values seconds → f ≡ None → all_found (ask ∷ asks) values seconds ≡ false
  unfolding all_found
  none_found f ask asks e m = rw (← e, m)

  pub one_found : (f : Option Float) (x : Float) (ask : Ask) (asks : List Ask) → f ≡ looked ask values seconds → f ≡ Some x
      → all_found (ask ∷ asks) values seconds ≡ all_found asks values seconds
  unfolding all_found
  one_found f x ask asks e n = rw (← e, n)

  -- of the asks from i on, the first is missing, or is found; or there is none
  pub none_found_at : (asks : List Ask) (i : ℕ) (d : Ask) {f : Option Float} → i < length asks → f ≡ looked (get_or asks i d) values seconds → f ≡ None
      → all_found (drop i asks) values seconds ≡ false
  none_found_at asks i d h e m = rw (drop-cons asks i d h) (none_found _ _ _ e m)

  pub one_found_at : (asks : List Ask) (i : ℕ) (d : Ask) {f : Option Float} {x : Float} → i < length asks → f ≡ looked (get_or asks i d) values seconds → f ≡ Some x
      → all_found (drop i asks) values seconds ≡ all_found (drop (i + 1) asks) values seconds
  one_found_at asks i d h e n = rw (drop-cons asks i d h, add-one) (one_found _ _ _ _ e n)

  pub none_left : (asks : List Ask) (i : ℕ) → length asks ≤ i → all_found (drop i asks) values seconds ≡ true
  unfolding all_found
  none_left asks i h = rw (drop_of_length-le asks h) refl

  -- what check 6 answers then
  pub lacks : (asks : List Ask) → all_found asks values seconds ≡ false → Err reason.Parameter ≡ result_of (asks_refused asks values seconds)
  lacks asks e = rw e refl

  pub has_all : (asks : List Ask) → all_found asks values seconds ≡ true → Ok tt ≡ result_of (asks_refused asks values seconds)
  has_all asks e = rw e refl
