-- `numbers::ceil::round_up` meets its contract. The first test puts x within 0 to 2 ^ 53, where the casts lose nothing but the fraction, and the second says whether there was one.
-- Assumes nothing.
use Rattle.std.proofs.Common.{◌≡◌, ◌^◌, true, ◌&&◌, ◌∙◌, arith}
use mathlib.Core.Bool.{and-eq-true_iff}
use lib.Ieee.{Float, le}
use Rattle.numbers.specs.Constants.{zero64, limit64}
use Rattle.numbers.specs.Ceil.{up_of}
use Rattle.numbers.proofs.Range.{Within, within, limit-value, cast_low, cast_high, both_tests, contains_is}
use Rattle.numbers.proofs.RoundUp.{cast_le, up_one, up_none, up_is}
use Rattle.numbers.proofs.ceil.round_up.Goals as goal

in_range : (x : Float) → (le zero64 x && le x limit64) ≡ true → Within (2 ^ 53) x
in_range x h =
    let both = (and-eq-true_iff (le zero64 x) (le x limit64)).0 h in
    within (2 ^ 53) limit64 limit-value x both.0 both.1

pub returns-then-not-contains : goal.returns-then-not-contains
unfolding up_of
returns-then-not-contains c =
    let ends = c.new.ensures in
    let outside = contains_is zero64 limit64 c.args.x _ _ _ _ ends.start ends.end ends.exhausted c.contains.ensures.value in
    simp (both_tests, outside, c.if-not-contains.true)

pub truncating_f64_to_u64-whole-requires : goal.truncating_f64_to_u64-whole-requires
truncating_f64_to_u64-whole-requires c =
    let ends = c.new.ensures in
    let x = in_range c.args.x (contains_is zero64 limit64 c.args.x _ _ _ _ ends.start ends.end ends.exhausted c.contains.ensures.value ∙ c.if-not-contains.false) in
    record { lower_bound = cast_low x; upper_bound = cast_high x }

pub overflow_add-result : goal.overflow_add-result
overflow_add-result c =
    let ends = c.new.ensures in
    let x = in_range c.args.x (contains_is zero64 limit64 c.args.x _ _ _ _ ends.start ends.end ends.exhausted c.contains.ensures.value ∙ c.if-not-contains.false) in
    omega (arith, cast_le x)

pub returns-then-nearest_u64_to_f64-x : goal.returns-then-nearest_u64_to_f64-x
returns-then-nearest_u64_to_f64-x c =
    let ends = c.new.ensures in
    let x = in_range c.args.x (contains_is zero64 limit64 c.args.x _ _ _ _ ends.start ends.end ends.exhausted c.contains.ensures.value ∙ c.if-not-contains.false) in
    let whole = c.truncating_f64_to_u64-whole.ensures in
    rw (up_is x, whole) (up_one x (rw (c.nearest_u64_to_f64.ensures, whole) at c.if-nearest_u64_to_f64-x.true))

pub returns-else-nearest_u64_to_f64-x : goal.returns-else-nearest_u64_to_f64-x
returns-else-nearest_u64_to_f64-x c =
    let ends = c.new.ensures in
    let x = in_range c.args.x (contains_is zero64 limit64 c.args.x _ _ _ _ ends.start ends.end ends.exhausted c.contains.ensures.value ∙ c.if-not-contains.false) in
    let whole = c.truncating_f64_to_u64-whole.ensures in
    rw (up_is x, whole) (up_none x (rw (c.nearest_u64_to_f64.ensures, whole) at c.if-nearest_u64_to_f64-x.false))
