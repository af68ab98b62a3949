-- How full a report is: every count is at most `fullest`, a sample takes it up by one at the most, and of a report that samples made it is their
-- number, so that 30 is "more than 4,294,967,295 samples". Assumes nothing.
use mathlib.Core.Path.{◌≡◌}
use mathlib.Core.Bool.{Bool, true, false}
use mathlib.Core.List.{List, [], ◌∷◌}
use Prim.Native.Nat.{ℕ, ◌+◌, ◌≤◌}
use native.Mathlib.Omega.{arith}
use lib.ListN.{length}
use Rattle.report.specs.Sample.{is_nan, is_infinite, is_above_one, sign_of, is_opposite}
use Rattle.report.specs.Report.{one_if, count, after, fullest, no_samples}
use Rattle.report.specs.Inside.{later_of}
use Rattle.report.specs.declared.report.Report.{Report}
use Rattle.report.proofs.Step.{count-one, sign_first, sign_alone, after_none, after_first}

-- no count is above n
pub record UpTo (r : Report) (n : ℕ) : Type 0 where
  pub samples : r.samples ≤ n
  pub nans : r.nans ≤ n
  pub infinities : r.infinities ≤ n
  pub above_one : r.above_one ≤ n
  pub sign_changes : r.sign_changes ≤ n

pub up_to : (r : Report) → UpTo r (fullest r)
unfolding fullest
up_to r =
    record {
      samples = omega arith;
      nans = omega arith;
      infinities = omega arith;
      above_one = omega arith;
      sign_changes = omega arith;
    }

pub fullest_up_to : (r : Report) (n : ℕ) → UpTo r n → fullest r ≤ n
unfolding fullest
fullest_up_to r n u = omega arith

pub one_more : (b : Bool) → one_if b ≤ 1
one_more true = omega arith
one_more false = omega arith

count_most : (such : ℕ → Bool) (x : ℕ) → count such (x ∷ []) ≤ 1
count_most such x = rw count-one (one_more (such x))

pub fullest-one : (r : Report) (x : ℕ) → fullest (after r (x ∷ [])) ≤ fullest r + 1
unfolding after
fullest-one r x =
    let u = up_to r in
    let f = sign_first r.last (sign_of x) [] in
    let s = sign_alone (later_of r.last (sign_of x)) in
    fullest_up_to _ _
    (record {
      samples = omega arith;
      nans = omega (arith, count_most is_nan x);
      infinities = omega (arith, count_most is_infinite x);
      above_one = omega (arith, count_most is_above_one x);
      sign_changes = omega (arith, f.0, s.0, one_more (is_opposite r.last (sign_of x)));
    })

pub fullest-after : (r : Report) (xs : List ℕ) → fullest (after r xs) ≤ fullest r + length xs
fullest-after r [] = rw after_none (omega arith)
fullest-after r (x ∷ xs) = rw (after_first r x xs) (omega (arith, fullest-one r x, fullest-after (after r (x ∷ [])) xs))

-- the samples are always counted
samples_counted : (r : Report) (xs : List ℕ) → r.samples + length xs ≤ fullest (after r xs)
unfolding after
samples_counted r xs = (up_to (after r xs)).samples

pub room_is_samples : (xs : List ℕ) → fullest (after no_samples xs) ≡ length xs
unfolding fullest
room_is_samples xs = omega (arith, fullest-after no_samples xs, samples_counted no_samples xs)
