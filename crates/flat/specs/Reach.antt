-- What the strings of a patch tell, as plain numbers. Assumes nothing.
use Rattle.std.specs.Prelude.{ℕ, List, get_or}
use Rattle.magnetron.specs.Signals.{tab}
use Rattle.util.specs.declared.reach.Reach.TheVariants.{Within}
use Rattle.util.specs.Reach.{number_of}
use Rattle.stages.specs.declared.reach.Reaches.{Reaches}

-- the number of each answer, by stage number
abbrev pub reach_numbers : Reaches → List ℕ
reach_numbers r = tab 32 (λ k. number_of (get_or r.stages k Within))
