-- Whether a ring reaches as far back as a fraction of its length asks (02, Five). Assumes nothing.
use Rattle.std.specs.Prelude.{ℕ, cond, is_nan, Float}
use Rattle.std.specs.Float.Ieee.{lt}
use Rattle.numbers.specs.Constants.{zero64, one64}
use Rattle.util.specs.declared.reach.Reach.{Reach}
use Rattle.util.specs.declared.reach.Reach.TheVariants.{Within, Below, Above, NotANumber}

-- "whether it was below 0, above 1, not a number, or within": of the unheld number
unfoldable pub reach_of : Float → Reach
reach_of f = cond (is_nan f) NotANumber (cond (lt f zero64) Below (cond (lt one64 f) Above Within))

-- the number of each
abbrev pub number_of : Reach → ℕ
number_of Within = 0
number_of Below = 1
number_of Above = 2
number_of NotANumber = 3
