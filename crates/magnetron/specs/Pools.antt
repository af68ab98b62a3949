-- The records of two pools: their marks, their shape, where a buffer begins, and what a new pool, prepare and the reset flag make of them.
-- Assumes nothing.
use Rattle.std.specs.Prelude.{Bool, true, false, cond, List, ◌++◌, ℕ, ◌*◌, eqb, drop, replicate, Float}
use Rattle.magnetron.specs.Buffers.{index_of, pick, Shape, Banks}
use Rattle.magnetron.specs.declared.buffer.Marks.{Marks}
use Rattle.magnetron.specs.declared.buffer.BufferIndex.{BufferIndex}
use Rattle.magnetron.specs.declared.pool.Pool.{Pool}
use Rattle.magnetron.specs.declared.pool.Pools.{Pools}

abbrev pub marks_in : Pools → Marks
marks_in p = record { internal = p.internal.stale; external = p.external.stale }

abbrev pub marked : Pool → List Bool → Pool
marked p stale = record { count = p.count; capacity = p.capacity; stale = stale }

abbrev pub remarked : Pools → Marks → Pools
remarked p m = record { internal = marked p.internal m.internal; external = marked p.external m.external; reset = p.reset }

abbrev pub pool_at : BufferIndex → Pools → Pool
pool_at b p = pick b p.internal p.external

-- where a buffer begins in its pool's slice
abbrev pub base_of : Pools → BufferIndex → ℕ
base_of p b = index_of b * (pool_at b p).capacity

-- The shape of a window of n samples. Check 2 does not look at the external capacity where there are no external buffers, and then no
-- place depends on it: the window stands for it.
abbrev pub shape_of : Pools → ℕ → Shape
shape_of p n = record { window = n; internal = p.internal.capacity; external = cond (eqb p.external.count 0) n p.external.capacity }

-- the samples of both pools with their marks
abbrev pub banks_of : List Float → List Float → Marks → Banks
banks_of internal external m = record { internal = record { samples = internal; stale = m.internal }; external = record { samples = external; stale = m.external } }

-- the same, where b's own pool has the samples `own`
abbrev pub sided : BufferIndex → List Float → List Float → Marks → Banks
sided b own other m = banks_of (pick b own other) (pick b other own) m

-- ---- records made anew

-- "A new pool holds zeros, not stale.": its record
abbrev pub fresh_pool : ℕ → ℕ → Pool
fresh_pool count capacity = record { count = count; capacity = capacity; stale = replicate 16 false }

-- every buffer that is there is stale; the marks past the count stay
abbrev pub all_stale : Pool → Pool
all_stale p = marked p (replicate p.count true ++ drop p.count p.stale)

-- "Prepare marks every internal buffer stale, touches no sample and clears the reset flag, which can be set afterwards."
abbrev pub prepared_pools : Pools → Pools
prepared_pools p = record { internal = all_stale p.internal; external = p.external; reset = false }

abbrev pub reset_set : Pools → Pools
reset_set p = record { internal = p.internal; external = p.external; reset = true }
