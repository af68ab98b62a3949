-- One sample more, by its sort: a zero, a NaN, or any other; and a magnitude, by whether it is infinity's. Assumes nothing.
use mathlib.Core.Path.{◌≡◌, refl, ◌∙◌}
use mathlib.Core.Bool.{Bool, true, false, cond, and-true}
use mathlib.Core.List.{[], ◌∷◌}
use Prim.Native.Nat.{ℕ, ◌+◌, ◌<◌, ◌≤◌, max}
use native.Mathlib.Nat.{add-zero, max-zero}
use native.Mathlib.Omega.{arith}
use borrow.Author.Tests.{eq-eqb, ne_eqb, lt-ltb, le-ltb}
use lib.Dec.{ltb}
use Rattle.report.specs.Sample.{sign_bit, infinity, one, magnitude, is_nan, is_infinite, is_finite, is_above_one, sign_of, is_signed, is_opposite}
use Rattle.report.specs.Report.{after, one_if}
use Rattle.report.specs.Inside.{with_one, signed_by, levelled_by}
use Rattle.report.specs.declared.sample.Sign.{Sign}
use Rattle.report.specs.declared.sample.Sign.TheVariants.{Neither, Positive, Negative}
use Rattle.report.specs.declared.report.Report.{Report}
use Rattle.report.proofs.Signs.{highest_bit}
use Rattle.report.proofs.Step.{after_one}

unopposed : (a : Sign) → is_opposite a Neither ≡ false
unopposed Neither = refl
unopposed Positive = refl
unopposed Negative = refl

either : (b : Bool) → is_signed (cond b Positive Negative) ≡ true
either true = refl
either false = refl

signed : (bits : ℕ) → 0 < magnitude bits → magnitude bits ≤ infinity → is_signed (sign_of bits) ≡ true
signed bits h l = rw (highest_bit bits h l) (either (ltb bits sign_bit))

-- the report with a sample counted, and so many NaNs
abbrev counted : Report → ℕ → Report
counted r nans =
    record {
      samples = r.samples + 1;
      nans = nans;
      infinities = r.infinities;
      above_one = r.above_one;
      sign_changes = r.sign_changes;
      largest = r.largest;
      last = r.last;
    }

module _ (r : Report) (bits : ℕ) where
  pub one_zero : magnitude bits ≡ 0 → after r (bits ∷ []) ≡ counted r r.nans
  unfolding with_one is_nan is_infinite is_finite is_above_one sign_of
  one_zero h = after_one r bits ∙ simp (h, unopposed, add-zero, max-zero)

  pub one_nan : infinity < magnitude bits → after r (bits ∷ []) ≡ counted r (r.nans + 1)
  unfolding with_one is_nan is_infinite is_finite is_above_one sign_of
  one_nan h =
      let m = magnitude bits in
      after_one r bits
      ∙ simp (
        lt-ltb infinity m h,
        le-ltb m infinity (omega arith),
        ne_eqb m infinity (λ e. omega arith),
        ne_eqb m 0 (λ e. omega arith),
        lt-ltb one m (omega arith),
        unopposed,
        add-zero,
        max-zero,
      )

  pub one_other : 0 < magnitude bits → magnitude bits ≤ infinity
      → after r (bits ∷ []) ≡ levelled_by (signed_by (counted r r.nans) (sign_of bits)) (magnitude bits)
  unfolding with_one is_nan is_infinite is_finite is_above_one signed_by levelled_by
  one_other h l = after_one r bits ∙ simp (le-ltb infinity (magnitude bits) l, signed bits h l, add-zero, and-true)

-- what a magnitude makes of a report: infinity counts, and any other may be the largest
pub levelled_infinite : (r : Report) (m : ℕ) → m ≡ infinity
    → levelled_by r m
    ≡ record {
      samples = r.samples;
      nans = r.nans;
      infinities = r.infinities + 1;
      above_one = r.above_one + one_if (ltb one m);
      sign_changes = r.sign_changes;
      largest = r.largest;
      last = r.last;
    }
unfolding levelled_by
levelled_infinite r m h = simp (eq-eqb m infinity h, le-ltb m infinity (omega arith), max-zero)

pub levelled_finite : (r : Report) (m : ℕ) → m < infinity
    → levelled_by r m
    ≡ record {
      samples = r.samples;
      nans = r.nans;
      infinities = r.infinities;
      above_one = r.above_one + one_if (ltb one m);
      sign_changes = r.sign_changes;
      largest = max r.largest m;
      last = r.last;
    }
unfolding levelled_by
levelled_finite r m h = simp (ne_eqb m infinity (λ e. omega arith), lt-ltb m infinity h, add-zero)
