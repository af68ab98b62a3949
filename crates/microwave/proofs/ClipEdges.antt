-- What the requirements remark on Clip and NaN, as theorems of its definition. Assumes nothing.
use Rattle.std.proofs.Common.{◌≡◌, refl}
use lib.Ieee.{Float, nan, inf, fin, neg, lt, is_nan}
use Rattle.numbers.specs.Small.{abs_of, max_of, min_of}
use Rattle.microwave.specs.Plain.{clip_limit, clipped}

-- "NaN sample: -limit."
pub nan_sample : (l : Float) → clipped (clip_limit l) nan ≡ neg (clip_limit l)
unfolding abs_of max_of min_of neg lt is_nan
nan_sample nan = refl
nan_sample (inf s) = refl
nan_sample (fin s m e) = refl

-- "NaN limit: passes."
pub nan_limit : (s : Float) → clipped (clip_limit nan) s ≡ s
unfolding abs_of max_of min_of neg lt is_nan
nan_limit nan = refl
nan_limit (inf t) = refl
nan_limit (fin t m e) = refl
