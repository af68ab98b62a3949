-- The words of private functions: the report of one sample more, and a sample's part in it by its sign and by its magnitude. Assumes nothing.
use Rattle.std.specs.Prelude.{ℕ, ◌+◌, max, cond, ltb, eqb}
use Rattle.report.specs.Sample.{infinity, one, magnitude, is_nan, is_infinite, is_finite, is_above_one, sign_of, is_signed, is_opposite}
use Rattle.report.specs.Report.{one_if}
use Rattle.report.specs.declared.sample.Sign.{Sign}
use Rattle.report.specs.declared.report.Report.{Report}

-- the sign that was met last, where this one is met next
abbrev pub later_of : Sign → Sign → Sign
later_of a b = cond (is_signed b) b a

-- one sample more
unfoldable pub with_one : Report → ℕ → Report
with_one r bits =
    record {
      samples = r.samples + 1;
      nans = r.nans + one_if (is_nan bits);
      infinities = r.infinities + one_if (is_infinite bits);
      above_one = r.above_one + one_if (is_above_one bits);
      sign_changes = r.sign_changes + one_if (is_opposite r.last (sign_of bits));
      largest = max r.largest (cond (is_finite bits) (magnitude bits) 0);
      last = later_of r.last (sign_of bits);
    }

-- its part by a sign
unfoldable pub signed_by : Report → Sign → Report
signed_by r sign =
    record {
      samples = r.samples;
      nans = r.nans;
      infinities = r.infinities;
      above_one = r.above_one;
      sign_changes = r.sign_changes + one_if (is_opposite r.last sign);
      largest = r.largest;
      last = sign;
    }

-- and by a magnitude that is no NaN's
unfoldable pub levelled_by : Report → ℕ → Report
levelled_by r m =
    record {
      samples = r.samples;
      nans = r.nans;
      infinities = r.infinities + one_if (eqb m infinity);
      above_one = r.above_one + one_if (ltb one m);
      sign_changes = r.sign_changes;
      largest = max r.largest (cond (ltb m infinity) m 0);
      last = r.last;
    }
