-- How a stage may be heard. Assumes nothing.
use Rattle.std.specs.Prelude.{cond, ℕ, ltb}
use Rattle.answers.specs.declared.activity.StageActivity.{StageActivity}
use Rattle.answers.specs.declared.activity.StageActivity.TheVariants.{Exhausted, Internal, External, Observer}

-- "activity is ordered Exhausted, Internal, External, Observer, greatest last"
abbrev pub rank_of : StageActivity → ℕ
rank_of Exhausted = 0
rank_of Internal = 1
rank_of External = 2
rank_of Observer = 3

abbrev pub greater_of : StageActivity → StageActivity → StageActivity
greater_of a b = cond (ltb (rank_of a) (rank_of b)) b a
