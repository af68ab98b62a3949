-- The report over a list of samples, each by its bits: "samples, NaNs, infinities, samples of magnitude above 1.0, sign changes (between
-- neighbours after zeros and NaNs are dropped), and the largest finite magnitude as its bits". Assumes nothing.
use Rattle.std.specs.Prelude.{ℕ, ◌+◌, max, Bool, cond, List, [], ◌∷◌, map, leb, length, Result, Ok, Err}
use Rattle.report.specs.Sample.{magnitude, is_nan, is_infinite, is_finite, is_above_one, sign_of, is_signed, is_opposite}
use Rattle.report.specs.declared.sample.Sign.{Sign}
use Rattle.report.specs.declared.sample.Sign.TheVariants.{Neither}
use Rattle.report.specs.declared.report.Report.{Report}
use Rattle.report.specs.declared.refused.Refused.{Refused}
use Rattle.report.specs.Refused.{number_of}

-- the members that are such, in their order, and how many they are
unfoldable pub those : {A : Type 0} → (A → Bool) → List A → List A
those such [] = []
those such (x ∷ xs) = cond (such x) (x ∷ those such xs) (those such xs)

abbrev pub count : (ℕ → Bool) → List ℕ → ℕ
count such xs = length (those such xs)

-- how many neighbours are of opposite sign
abbrev pub one_if : Bool → ℕ
one_if met = cond met 1 0

unfoldable pub changes_after : Sign → List Sign → ℕ
changes_after a [] = 0
changes_after a (b ∷ signs) = one_if (is_opposite a b) + changes_after b signs

unfoldable pub changes : List Sign → ℕ
changes [] = 0
changes (a ∷ signs) = changes_after a signs

-- the last of some signs; of none, neither
unfoldable pub last_after : Sign → List Sign → Sign
last_after a [] = a
last_after a (b ∷ signs) = last_after b signs

abbrev pub last_of : List Sign → Sign
last_of signs = last_after Neither signs

-- the greatest of some numbers; of none, 0
unfoldable pub greatest : List ℕ → ℕ
greatest [] = 0
greatest (n ∷ ns) = max n (greatest ns)

-- "All are zero on no samples."
abbrev pub no_samples : Report
no_samples =
    record { samples = 0; nans = 0; infinities = 0; above_one = 0; sign_changes = 0; largest = 0; last = Neither }

-- the signs that were met: the last one before the samples and theirs, with zeros and NaNs dropped
abbrev pub met : Sign → List ℕ → List Sign
met last xs = those is_signed (last ∷ map sign_of xs)

-- the report of what came before and of these samples
unfoldable pub after : Report → List ℕ → Report
after r xs =
    record {
      samples = r.samples + length xs;
      nans = r.nans + count is_nan xs;
      infinities = r.infinities + count is_infinite xs;
      above_one = r.above_one + count is_above_one xs;
      sign_changes = r.sign_changes + changes (met r.last xs);
      largest = max r.largest (greatest (map magnitude (those is_finite xs)));
      last = last_of (met r.last xs);
    }

-- Of a report that samples made, `samples` is the greatest count (proofs/Room `room_is_samples`): 30 is then "more than 4,294,967,295
-- samples", and a report that no samples made has an answer too.
abbrev pub most : ℕ
most = 4294967295

unfoldable pub fullest : Report → ℕ
fullest r = max (max r.samples r.nans) (max (max r.infinities r.above_one) r.sign_changes)

abbrev pub has_room : Report → ℕ → Bool
has_room r n = leb (fullest r + n) most

-- what comes of a stretch: 0 with the report of all that came, or a refusal's number with a report
pub record Added : Type 0 where
  pub number : ℕ
  pub report : Report

-- the same, as a call tells it: by what it answers, and the report that it leaves
unfoldable pub told : Result Unit Refused → Report → Added
told (Ok done) r = record { number = 0; report = r }
told (Err refused) r = record { number = number_of refused; report = r }

-- a refusal leaves the report as it is
abbrev pub refused_by : ℕ → Report → Added
refused_by number r = record { number = number; report = r }

abbrev pub accepted : Report → Added
accepted r = record { number = 0; report = r }

unfoldable pub added_of : Report → List ℕ → Added
added_of r xs = cond (has_room r (length xs)) (accepted (after r xs)) (refused_by 30 r)
