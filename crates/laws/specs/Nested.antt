-- A nested run: "the outer internal buffers are the inner external ones". What becomes of them, `proofs/Nested.antt` says.
-- Definitions only. Assumes nothing.
use Rattle.std.specs.Prelude.{Bool, false, ◌||◌, List, [], ◌∷◌, ℕ}
use Rattle.magnetron.specs.Buffers.{hits}
use Rattle.magnetron.specs.declared.buffer.BufferIndex.{BufferIndex}
use Rattle.magnetron.specs.declared.pool.Pools.{Pools}
use Rattle.engine.specs.Run.{Given, Plan, outs_at}

-- an inner engine's pools, with the internal buffers of the outer one as its external ones
abbrev pub inner_pools : Pools → Pools → Pools
inner_pools inner outer = record { internal = inner.internal; external = outer.internal; reset = inner.reset }

-- what an inner run is given, on those pools
abbrev pub nested_in : Pools → Given → Given
nested_in outer g = record {
  patch = g.patch;
  pools = inner_pools g.pools outer;
  states = g.states;
  samples = g.samples;
  width = g.width;
  internal = g.internal;
  external = g.external;
  zeros = g.zeros;
  rings = g.rings;
  values = g.values;
}

-- the outer engine's pools once an inner one has left these
abbrev pub outer_pools : Pools → Pools → Pools
outer_pools outer inner = record { internal = inner.external; external = outer.external; reset = outer.reset }

-- a stage of the order writes the buffer
abbrev pub writes : Plan → List ℕ → BufferIndex → Bool
writes P [] b = false
writes P (k ∷ ks) b = hits b (outs_at P k) || writes P ks b
