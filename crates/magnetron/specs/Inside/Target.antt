-- A window of a pool that a loop writes: where it lies, what a sample of it becomes, and the pool with a signal written there. Assumes nothing.
use Rattle.std.specs.Prelude.{◌≡◌, List, ℕ, ◌+◌, ◌≤◌, length, set, Float}
use Rattle.magnetron.specs.Signals.{window}
use Rattle.magnetron.specs.Inside.Mix.{mix_of, from, mixed}
use Rattle.magnetron.specs.Inside.Source.{Clear}
use Rattle.magnetron.specs.declared.source.Source.{Source}
use Rattle.magnetron.specs.declared.output.Target.{Target}

-- the samples that are written lie in the pool
abbrev pub LiesIn : Target → List Float → Type 0
LiesIn target own = target.base + target.samples ≤ length own

-- a source's samples lie in their pool, and clear of those that are written
abbrev pub ClearOf : Source → List Float → List Float → Target → Type 0
ClearOf source own other target = Clear source (length own) (length other) target.base target.samples

-- the pool with one sample written into it
abbrev pub sampled : List Float → Target → ℕ → Float → List Float
sampled pool target i y = set pool (target.base + i) (mix_of target.stale target.level (from pool target.base i) y)

-- what a signal leaves at each sample that is written
abbrev pub mixed_in : List Float → Target → (ℕ → Float) → ℕ → Float
mixed_in pool target y = mixed pool target.base target.stale target.level y

-- n samples of the window written at once, those from i on, of a signal from its first sample on
abbrev pub block_written : List Float → Target → ℕ → ℕ → (ℕ → Float) → List Float
block_written pool target i n y = window pool (target.base + i) n (mixed pool (target.base + i) target.stale target.level y)

-- the first i samples of the window have been written, of a signal
abbrev pub WrittenTo : List Float → Target → (ℕ → Float) → ℕ → List Float → Type 0
WrittenTo pool target y i l = (i ≤ target.samples) × (l ≡ window pool target.base i (mixed_in pool target y))

-- the pool with a signal written into it
abbrev pub written : List Float → Target → (ℕ → Float) → List Float
written pool target y = window pool target.base target.samples (mixed_in pool target y)
