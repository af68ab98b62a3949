-- The greatest activity is associative and commutative, with Exhausted as neutral; so the sequence plays no part in it.
-- By rank: `greater_of` is the greater rank's, and a rank is one activity's.
-- Assumes nothing.
use mathlib.Core.Path.{◌≡◌, refl, sym, ap, ◌∙◌}
use mathlib.Core.Bool.{Bool, true, false, cond}
use Prim.Native.Nat.{ℕ, zero, suc, max}
use native.Mathlib.Omega.{arith}
use lib.Dec.{ltb, ltb→lt, nltb→le}
use Rattle.answers.specs.Activity.{rank_of, greater_of}
use Rattle.answers.specs.declared.activity.StageActivity.{StageActivity}
use Rattle.answers.specs.declared.activity.StageActivity.TheVariants.{Exhausted, Internal, External, Observer}

named : ℕ → StageActivity
named zero = Exhausted
named (suc zero) = Internal
named (suc (suc zero)) = External
named (suc (suc (suc n))) = Observer

rank_back : (a : StageActivity) → named (rank_of a) ≡ a
unfolding named
rank_back Exhausted = refl
rank_back Internal = refl
rank_back External = refl
rank_back Observer = refl

-- a rank is one activity's
pub rank_one : (a b : StageActivity) → rank_of a ≡ rank_of b → a ≡ b
rank_one a b e = sym (rank_back a) ∙ ap named e ∙ rank_back b

pub rank_greater : (a b : StageActivity) → rank_of (greater_of a b) ≡ max (rank_of a) (rank_of b)
rank_greater a b = go (ltb (rank_of a) (rank_of b)) refl
  where
    go : (v : Bool) → ltb (rank_of a) (rank_of b) ≡ v → rank_of (cond v b a) ≡ max (rank_of a) (rank_of b)
    go true e = let h = ltb→lt (rank_of a) (rank_of b) (rw e tt) in omega arith
    go false e = let h = nltb→le (rank_of a) (rank_of b) (rw e tt) in omega arith

pub greater_comm : (a b : StageActivity) → greater_of a b ≡ greater_of b a
greater_comm a b = rank_one (greater_of a b) (greater_of b a) (omega (arith, rank_greater a b, rank_greater b a))

pub greater_assoc : (a b c : StageActivity) → greater_of (greater_of a b) c ≡ greater_of a (greater_of b c)
greater_assoc a b c =
    rank_one (greater_of (greater_of a b) c) (greater_of a (greater_of b c))
    (omega (arith, rank_greater (greater_of a b) c, rank_greater a b, rank_greater a (greater_of b c), rank_greater b c))

pub greater_neutral : (a : StageActivity) → greater_of Exhausted a ≡ a
greater_neutral a = rank_one (greater_of Exhausted a) a (omega (arith, rank_greater Exhausted a))
