-- When two stages of a plan are tied: both are stages of the patch, and one of them writes a buffer that the other reads or writes.
-- Tied stages keep their sequence in a safe order, and stages that are not tied may change places: `proofs/SafeOrders.antt`.
-- What a stage reads and writes is what the definition of a run says: `ins_at` and `outs_at`. Definitions only. Assumes nothing.
use Rattle.std.specs.Prelude.{Bool, ◌&&◌, ◌||◌, ℕ, ltb}
use Rattle.magnetron.specs.Buffers.{meets}
use Rattle.engine.specs.Run.{Plan, ins_at, outs_at}

-- the patch has a stage k
abbrev pub is_there : Plan → ℕ → Bool
is_there P k = ltb k P.patch.count

-- stage j writes a buffer that stage k reads, or one that stage k writes
unfoldable pub disturbs : Plan → ℕ → ℕ → Bool
disturbs P j k = meets (outs_at P j) (ins_at P k) || meets (outs_at P j) (outs_at P k)

-- A number that names no stage is tied to none: an order that holds it is refused, wherever it stands.
unfoldable pub tied : Plan → ℕ → ℕ → Bool
tied P j k = (is_there P j && is_there P k) && (disturbs P j k || disturbs P k j)
