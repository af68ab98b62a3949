-- What a write puts at one sample, and what it leaves at each sample of a window, as a loop works it out. Assumes nothing.
use Rattle.std.specs.Prelude.{Bool, cond, List, ℕ, ◌+◌, get_or, Float}
use Rattle.std.specs.Float.{nan, binary64}
use Rattle.std.specs.Float.Ieee.{add, mul}

-- store or add: old plus new where it is not stale; the value is multiplied by the level first
abbrev pub mix_of : Bool → Float → Float → Float → Float
mix_of stale level old x = cond stale (mul binary64 x level) (add binary64 old (mul binary64 x level))

-- the samples of a list from base on, as a signal
abbrev pub from : List Float → ℕ → ℕ → Float
from d base i = get_or d (base + i) nan

-- what a write of the signal x leaves at each sample of the buffer at base of d
abbrev pub mixed : List Float → ℕ → Bool → Float → (ℕ → Float) → ℕ → Float
mixed d base stale level x i = mix_of stale level (from d base i) (x i)

-- the same once the signal has been multiplied: stored where it is stale, added where it is not
abbrev pub placed : List Float → ℕ → Bool → (ℕ → Float) → ℕ → Float
placed d base stale x i = cond stale (x i) (add binary64 (from d base i) (x i))

-- the product of two signals
abbrev pub times : (ℕ → Float) → (ℕ → Float) → ℕ → Float
times x y i = mul binary64 (x i) (y i)
