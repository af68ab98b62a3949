-- The starred cases hold: one theorem over the whole table, by computation; and case 13 for any input. Every definition on the way has to be named, those of `lib.Ieee`
-- too. Assumes nothing.
use mathlib.Core.Path.{◌≡◌, refl}
use mathlib.Core.List.{List, [], ◌∷◌, zip_with}
use mathlib.Core.Option.{none}
use Prim.Native.Nat.{ℕ, zero, suc}
use lib.ListN.{drop}
use lib.Ieee.{of_bits, of_int, round, neg, add, sub, mul, lt, is_nan}
use Rattle.numbers.specs.Small.{max_of, min_of}
use Rattle.numbers.specs.Ceil.{ceil_of, gap_of}
use Rattle.numbers.specs.Zeros.{is_plus_zero, all_plus_zero}
use Rattle.std.specs.Prelude.{Ok}
use Rattle.answers.specs.declared.activity.StageActivity.TheVariants.{Exhausted}
use Rattle.magnetron.specs.Signals.{tab, state_at}
use Rattle.magnetron.specs.Buffers.{line_of, with_line, line_at, with_line_at, heard, laid, write, stale_at, cleared}
use Rattle.magnetron.specs.Checks.{pool_ok, shape_ok, window_ok, has_buffer}
use Rattle.util.specs.Reach.{reach_of}
use Rattle.util.specs.DelayLine as ring
use Rattle.util.specs.Cases as rings
use Rattle.util.specs.Comb.{comb, combed}
use Rattle.util.specs.AllPass.{passed}
use Rattle.microwave.specs.Parameter.{all_found, numbers_of}
use Rattle.stages.specs.Rings.{sum_to, all_to, rings_ok}
use Rattle.stages.specs.Reach.{all_within}
use Rattle.engine.specs.Run.{Given, plan_of, world_of, after, own_of, put_played, staged, louder, told_at, reaches, orderly, entry, fault_of, fault, turned, judged, ended, rendered, after_by, run_of}
use Rattle.laws.specs.Cases.{Case, Holds, All, table}

infixr 20 ◌&◌
abbrev ◌&◌ : {P Q : Type 0} → P → Q → P × Q
p & q = (p, q)

pub listed : All table
unfolding All Holds table rings.Holds rings.answers of_bits of_int round neg add sub mul lt is_nan max_of min_of ceil_of gap_of is_plus_zero all_plus_zero tab state_at zip_with line_of with_line line_at with_line_at heard laid write stale_at cleared pool_ok shape_ok window_ok has_buffer reach_of ring.tapped ring.in_ring ring.delay_of ring.delayed_by comb combed passed all_found numbers_of sum_to own_of put_played staged louder orderly all_to rings_ok entry fault_of fault turned judged ended rendered after_by run_of
listed =
    (refl, refl, refl) & (refl, refl, refl) & (refl, refl, refl) & (refl, refl, refl) & (refl, refl, refl)
    & refl & refl & refl & refl & refl & refl & refl
    & (refl, refl, refl) & (refl, refl, refl) & (refl, refl, refl) & tt

-- what holds of a list of cases holds of it from any row on, counted from 0
pub from : (n : ℕ) (cs : List Case) → All cs → All (drop n cs)
unfolding All
from zero cs h = h
from (suc n) [] h = h
from (suc n) (c ∷ cs) h = from n cs h.1

-- Case 13 is a sentence about every input: "Empty order, checks 1 to 4 passed: 0, Exhausted.", and everything else is as it was.
pub thirteen : (g : Given) → entry (plan_of g) g.zeros [] (world_of g) ≡ none
    → run_of g [] ≡ after (record { answer = Ok Exhausted; pools = g.pools; states = g.states; reaches = all_within }) g.internal g.external g.rings
unfolding run_of rendered judged ended after_by reaches told_at tab
thirteen g e = rw e
