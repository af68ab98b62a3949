-- Where the loop that writes the output finds the samples of a buffer that is read, and those samples as a signal.
-- Assumes nothing.
use Rattle.std.specs.Prelude.{◌⊎◌, cond, List, ℕ, ◌+◌, ◌<◌, ◌≤◌, Float}
use Rattle.numbers.specs.Constants.{zero64}
use Rattle.magnetron.specs.Buffers.{same_pool, stale_at}
use Rattle.magnetron.specs.Pools.{base_of}
use Rattle.magnetron.specs.Inside.Mix.{from}
use Rattle.magnetron.specs.declared.buffer.Marks.{Marks}
use Rattle.magnetron.specs.declared.buffer.BufferIndex.{BufferIndex}
use Rattle.magnetron.specs.declared.pool.Pools.{Pools}
use Rattle.magnetron.specs.declared.source.Source.{Source}
use Rattle.magnetron.specs.declared.source.Source.TheVariants.{Zeros, Own, Other}

-- zeros where it is stale, else a place in the pool that is written or in the other
unfoldable pub source_of : Pools → Marks → BufferIndex → BufferIndex → Source
source_of p m input output = cond (stale_at input m) Zeros (cond (same_pool input output) (Own (base_of p input)) (Other (base_of p input)))

-- sample i of a source, where `own` is the pool that is written
abbrev pub signal_of : Source → List Float → List Float → ℕ → Float
signal_of Zeros own other i = zero64
signal_of (Own at) own other i = from own at i
signal_of (Other at) own other i = from other at i

-- sample i lies in the pool of `own` samples, or in the other of `others`
abbrev pub InReach : Source → ℕ → ℕ → ℕ → Type 0
InReach Zeros own others i = Unit
InReach (Own at) own others i = at + i < own
InReach (Other at) own others i = at + i < others

-- m places from i on and n places from j on: one part ends where the other begins, or before
abbrev pub Apart : ℕ → ℕ → ℕ → ℕ → Type 0
Apart i m j n = (i + m ≤ j) ⊎ (j + n ≤ i)

-- the n samples lie there, and those of the same pool lie clear of the n samples from base on
abbrev pub Clear : Source → ℕ → ℕ → ℕ → ℕ → Type 0
Clear Zeros own others base n = Unit
Clear (Own at) own others base n = (at + n ≤ own) × Apart at n base n
Clear (Other at) own others base n = at + n ≤ others
