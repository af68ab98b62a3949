-- "The report after two stretches equals the report of the joined stretch, where that one is not refused." For any report and any two stretches;
-- and what each figure of a report is, over the list of all its samples. It says nothing of two stretches that are accepted where the joined one
-- is not: of a report that samples made there are none, since its room is their number (proofs/Room `room_is_samples`). Assumes nothing.
use mathlib.Core.Path.{◌≡◌, refl}
use mathlib.Core.Bool.{Bool, true, false, cond}
use mathlib.Core.List.{List, ◌++◌, map}
use Prim.Native.Nat.{ℕ, ◌+◌, ◌≤◌}
use native.Mathlib.Nat.{zero-add, zero-max}
use native.Mathlib.Omega.{arith}
use borrow.Author.Tests.{leb-true, le-leb}
use lib.ListN.{length, length-append}
use Rattle.report.specs.Sample.{magnitude, is_nan, is_infinite, is_finite, is_above_one, sign_of, is_signed}
use Rattle.report.specs.Report.{those, count, changes, greatest, last_of, no_samples, after, most, fullest, has_room, refused_by, accepted, added_of}
use Rattle.report.specs.declared.report.Report.{Report}
use Rattle.report.proofs.Step.{after_joined}
use Rattle.report.proofs.Room.{fullest-after}

-- what was not refused had room
had_room : (b : Bool) (r s : Report) → (cond b (accepted r) (refused_by 30 s)).number ≡ 0 → b ≡ true
had_room true r s e = refl
had_room false r s e = absurd (omega arith)

pub joined : (r : Report) (xs ys : List ℕ) → (added_of r (xs ++ ys)).number ≡ 0
    → ((added_of r xs).number ≡ 0) × (added_of (added_of r xs).report ys ≡ added_of r (xs ++ ys))
unfolding added_of
joined r xs ys e =
    let b = had_room (has_room r (length (xs ++ ys))) (after r (xs ++ ys)) r e in
    let h : fullest r + (length xs + length ys) ≤ most = rw length-append at (leb-true (fullest r + length (xs ++ ys)) most b) in
    let first = le-leb (fullest r + length xs) most (omega arith) in
    let second = le-leb (fullest (after r xs) + length ys) most (omega (arith, fullest-after r xs)) in
    (simp first, simp (first, second, b, after_joined))

-- the six figures over the samples of a report: how many there are, how many are NaN, infinite and above 1.0, how many neighbours are of opposite
-- sign once those without a sign are dropped, and the greatest finite magnitude
pub figures : (xs : List ℕ)
    → after no_samples xs
    ≡ record {
      samples = length xs;
      nans = count is_nan xs;
      infinities = count is_infinite xs;
      above_one = count is_above_one xs;
      sign_changes = changes (those is_signed (map sign_of xs));
      largest = greatest (map magnitude (those is_finite xs));
      last = last_of (those is_signed (map sign_of xs));
    }
unfolding after those
figures xs = simp (zero-add, zero-max)
