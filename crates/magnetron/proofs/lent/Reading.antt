-- A single read whose check passed: where the buffer lies, and that the part handed back is what the definition says.
-- Assumes nothing.
use mathlib.Core.Path.{◌≡◌}
use mathlib.Core.Bool.{true, false}
use Prim.Native.Nat.{◌≤◌}
use lib.ListN.{length, take, drop}
use Rattle.numbers.specs.Zeros.{all_plus_zero}
use Rattle.numbers.proofs.PlusZero.{zeros_are}
use Rattle.order.specs.Checks.{passed}
use Rattle.magnetron.specs.Buffers.{index_of, pick, stale_at, heard}
use Rattle.magnetron.specs.Pools.{marks_in, pool_at, base_of}
use Rattle.magnetron.specs.Checks.{has_buffer}
use Rattle.magnetron.specs.Single.{Lent, read_fault, read_of}
use Rattle.magnetron.specs.Inside.Room.{Held}
use Rattle.magnetron.specs.declared.buffer.BufferIndex.{BufferIndex}
use Rattle.magnetron.proofs.Told.{Room, held, zeros-lent, room, pick-length, line_is}
use Rattle.magnetron.proofs.Faults.{prepare_told, read_told}

module _ (l : Lent) (b : BufferIndex) (ok : passed (read_fault l b) ≡ true) where
  there : has_buffer l.pools b ≡ true
  there = (read_told l b ok).1

  pools : Held l.pools (length l.internal) (length l.external) l.window
  pools =
      let t = prepare_told l (read_told l b ok).0 in
      held _ _ _ _ l.zeros t.0 t.1

  zeros : (l.window ≤ length l.zeros) × (all_plus_zero l.zeros ≡ true)
  zeros =
      let t = prepare_told l (read_told l b ok).0 in
      zeros-lent l.pools (length l.internal) (length l.external) l.window l.zeros t.0 t.1

  pub enough : l.window ≤ length l.zeros
  enough = zeros.0

  pub lies : Room (index_of b) (pool_at b l.pools).capacity (length (pick b l.internal l.external)) l.window
  lies = rw (pick-length b l.internal l.external) at (room _ _ _ _ pools b there)

  pub stale_part : stale_at b (marks_in l.pools) ≡ true → take l.window l.zeros ≡ read_of l b
  unfolding read_of heard
  stale_part e = rw (ok, line_is _ _ _ _ pools l.internal l.external (marks_in l.pools) b there, e) (zeros_are l.zeros l.window zeros.1 zeros.0)

  pub fresh_part : stale_at b (marks_in l.pools) ≡ false → take l.window (drop (base_of l.pools b) (pick b l.internal l.external)) ≡ read_of l b
  unfolding read_of heard
  fresh_part e = rw (ok, line_is _ _ _ _ pools l.internal l.external (marks_in l.pools) b there, e)
