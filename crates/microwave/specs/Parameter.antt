-- The number that stands for a parameter in a window, and check 6 where there is none (01, "Buffers"). Assumes nothing.
use Rattle.std.specs.Prelude.{ℕ, ◌≤◌, Bool, true, cond, ◌&&◌, List, [], ◌∷◌, length, ◌==◌, slice_index_or, slice_get, Option, Some, None, Float}
use Rattle.std.proofs.Math.Option as found
use Rattle.answers.specs.declared.refusal.Reason.{Reason}
use Rattle.answers.specs.declared.refusal.Reason.TheVariants as reason
use Rattle.numbers.specs.Constants.{zero64, one64}
use Rattle.microwave.specs.declared.parameter.Parameter.{Parameter}
use Rattle.microwave.specs.declared.parameter.Parameter.TheVariants.{Fixed, Slot, WindowSeconds, Absent}
use Rattle.microwave.specs.declared.parameter.Ask.{Ask}
use Rattle.microwave.specs.declared.parameter.Asks.{Asks}
use Rattle.microwave.specs.declared.parameter.Asks.TheVariants.{Nothing, One, Two, Three}
use Rattle.microwave.specs.declared.parameter.Numbers.{Numbers}

-- "A parameter is a fixed number, a slot, the window's seconds (sample width w times n), or absent.": `absent` is what stands for it then
abbrev pub number_in : Parameter → Option Float → List Float → Float → Option Float
number_in (Fixed x) absent values seconds = Some x
number_in (Slot i) absent values seconds = slice_get values i
number_in WindowSeconds absent values seconds = Some seconds
number_in Absent absent values seconds = absent

abbrev pub looked : Ask → List Float → Float → Option Float
looked ask values seconds = number_in ask.parameter ask.absent values seconds

-- "Only out_level and phase may be absent.": every other parameter is required, and 0.0 stands for an absent phase
abbrev pub required : Parameter → Ask
required parameter = record { parameter = parameter; absent = None }

abbrev pub or_zero : Parameter → Ask
or_zero parameter = record { parameter = parameter; absent = Some zero64 }

-- "out_level, 1.0 if absent"
abbrev pub or_one : Parameter → Ask
or_one level = record { parameter = level; absent = Some one64 }

-- of "an optional pair of out levels", one, beside the other: "6 also where just one level of the pair is absent"
abbrev pub of_pair : Parameter → Parameter → Ask
of_pair level (Fixed x) = required level
of_pair level (Slot i) = required level
of_pair level WindowSeconds = required level
of_pair level Absent = or_one level

-- What 01 has for each case of the answer: the number that a run returns, and the value that stands for the parameter.
pub record Reported : Type 0 where
  pub number : ℕ
  pub value : Float

-- "A slot that yields no value ends the check with 6." It has no value: 0.0 stands there.
abbrev pub reported : Option Float → Reported
reported (Some x) = record { number = 0; value = x }
reported None = record { number = 6; value = zero64 }

-- "6: a parameter's slot is past the lent values, or a required parameter is absent"
pub data Refused (values : List Float) : Parameter → Option Float → Type 0 where
  slot_past : {i : ℕ} {absent : Option Float} → length values ≤ i → Refused values (Slot i) absent
  required_absent : Refused values Absent None

-- ---- what a stage asks for: up to three parameters beside its levels

abbrev pub ask_list : Asks → List Ask
ask_list Nothing = []
ask_list (One a) = a ∷ []
ask_list (Two a b) = a ∷ b ∷ []
ask_list (Three a b c) = a ∷ b ∷ c ∷ []

-- each ask has its number: not "6"
unfoldable pub all_found : List Ask → List Float → Float → Bool
all_found [] values seconds = true
all_found (ask ∷ asks) values seconds = (reported (looked ask values seconds)).number == 0 && all_found asks values seconds

-- check 6 of them: nothing, or what refuses
abbrev pub asks_refused : List Ask → List Float → Float → found.Option Reason
asks_refused asks values seconds = cond (all_found asks values seconds) found.none (found.some reason.Parameter)

-- the number found, 0.0 where there is none
abbrev pub number_for : Ask → List Float → Float → Float
number_for ask values seconds = (reported (looked ask values seconds)).value

-- ask i, and one that 0.0 answers where there is none
abbrev pub ask_at : List Ask → ℕ → Ask
ask_at asks i = slice_index_or asks i (or_zero Absent)

-- the numbers found, in the order of the asks
unfoldable pub numbers_of : List Ask → List Float → Float → Numbers
numbers_of asks values seconds = record {
  first = number_for (ask_at asks 0) values seconds;
  second = number_for (ask_at asks 1) values seconds;
  third = number_for (ask_at asks 2) values seconds;
}
