-- The checks of documents 01 and 02 that look at pools and buffers: 1, 2, 5, 7 and 8. Each is the test that a refusal's words deny. Assumes nothing.
use Rattle.std.specs.Prelude.{Bool, true, not, ◌&&◌, ◌||◌, List, [], ◌∷◌, ℕ, ◌*◌, leb, ltb, eqb, length, Float}
use Rattle.numbers.specs.Zeros.{all_plus_zero}
use Rattle.magnetron.specs.Buffers.{index_of, hits, clash}
use Rattle.magnetron.specs.Pools.{pool_at}
use Rattle.magnetron.specs.declared.buffer.Marks.{Marks}
use Rattle.magnetron.specs.declared.buffer.BufferIndex.{BufferIndex}
use Rattle.magnetron.specs.declared.pool.Pools.{Pools}

-- 1, of one pool: "At most 16 .. buffers; capacity 0 to 4,096 samples, one capacity per pool; a pool's slice holds count times capacity."
unfoldable pub pool_ok : ℕ → ℕ → ℕ → Bool
pool_ok count capacity len = leb count 16 && (leb capacity 4096 && eqb (count * capacity) len)

-- 1, of both pools, whose slices have these lengths, and of the lent zeros: "exactly one +0.0 per sample of the internal capacity"
unfoldable pub shape_ok : Pools → ℕ → ℕ → List Float → Bool
shape_ok p internal external zeros =
    pool_ok p.internal.count p.internal.capacity internal
    && (pool_ok p.external.count p.external.capacity external
    && (eqb (length zeros) p.internal.capacity && all_plus_zero zeros))

-- 2 refuses where "the window is longer than the internal capacity, or than the external one where there are external buffers"
unfoldable pub window_ok : Pools → ℕ → Bool
window_ok p n = leb n p.internal.capacity && (eqb p.external.count 0 || leb n p.external.capacity)

-- 5 refuses what "names a buffer that isn't there"
unfoldable pub has_buffer : Pools → BufferIndex → Bool
has_buffer p b = ltb (index_of b) (pool_at b p).count

abbrev pub all_there : Pools → List BufferIndex → Bool
all_there p [] = true
all_there p (b ∷ bs) = has_buffer p b && all_there p bs

-- 7 refuses where "the window isn't empty and a stage's output is also one of its inputs and is not stale at its turn"
abbrev pub no_clash : ℕ → List BufferIndex → List BufferIndex → Marks → Bool
no_clash n ins outs m = eqb n 0 || not (clash ins outs m)

-- 8 refuses where "both outputs are the same buffer at any window length"
abbrev pub none_twice : List BufferIndex → Bool
none_twice [] = true
none_twice (b ∷ bs) = not (hits b bs) && none_twice bs
