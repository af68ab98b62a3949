-- A second output of one turn: what is heard of the inputs after the first output was written, by the marks of before, is what was heard before.
-- An input that is not stale is no output, by check 7, and a stale one is zeros whatever lies there.
-- Assumes nothing.
use mathlib.Core.Path.{◌≡◌, refl, sym, ap, ◌∙◌}
use mathlib.Core.Bool.{Bool, true, false, cond, true≢false}
use mathlib.Core.List.{List, []}
use Prim.Native.Nat.{ℕ, zero, suc}
use native.Mathlib.Omega.{arith}
use lib.ListN.{length, replicate}
use lib.Ieee.{Float}
use Rattle.numbers.specs.Constants.{zero64}
use Rattle.magnetron.specs.Buffers.{Shape, Banks, Line, line_at, line_of, heard, write, stale_at, cleared}
use Rattle.magnetron.specs.Pools.{shape_of, banks_of}
use Rattle.magnetron.specs.Inside.Room.{Held}
use Rattle.magnetron.specs.declared.buffer.Marks.{Marks}
use Rattle.magnetron.specs.declared.buffer.BufferIndex.{BufferIndex}
use Rattle.magnetron.specs.declared.buffer.BufferIndex.TheVariants.{External, Internal}
use Rattle.magnetron.specs.declared.pool.Pools.{Pools}
use Rattle.magnetron.proofs.Told.{ApartFrom, fits}
use Rattle.magnetron.proofs.Writes.{write_other}

module _ (h : Shape) (x y : List Float) where
  mark_of : (a : BufferIndex) (m : Marks) → (line_at h a (banks_of x y m)).stale ≡ stale_at a m
  unfolding line_at line_of stale_at
  mark_of (External k) m = refl
  mark_of (Internal k) m = refl

  -- what is heard depends on a buffer's mark and on its samples
  heard_by : (a : BufferIndex) (n : ℕ) (m : Marks) → heard n (line_at h a (banks_of x y m)) ≡ cond (stale_at a m) (replicate n zero64) (line_at h a (banks_of x y m)).samples
  unfolding heard
  heard_by a n m = ap (λ (s : Bool). cond s (replicate n zero64) (line_at h a (banks_of x y m)).samples) (mark_of a m)

  -- and the samples on no mark
  samples_by : (a : BufferIndex) (m m' : Marks) → (line_at h a (banks_of x y m)).samples ≡ (line_at h a (banks_of x y m')).samples
  unfolding line_at line_of
  samples_by (External k) m m' = refl
  samples_by (Internal k) m m' = refl

no_samples_lem : (h : Shape) (a : BufferIndex) (b : Banks) → h.window ≡ 0 → (line_at h a b).samples ≡ []
unfolding line_at line_of
no_samples_lem h a b e = rw e refl

module _ (p : Pools) (m : Marks) (l : BufferIndex) (n : ℕ) (internal external vs : List Float) {internal' external' : List Float}
    (h : Held p (length internal) (length external) n)
    (e : banks_of internal' external' (cleared l m) ≡ write (shape_of p n) (record { to = l; values = vs }) (banks_of internal external m)) where
  samples_again : (a : BufferIndex) → ApartFrom m n l a → stale_at a m ≡ false
      → (line_at (shape_of p n) a (banks_of internal' external' m)).samples ≡ (line_at (shape_of p n) a (banks_of internal external m)).samples
  unfolding ApartFrom
  samples_again a apart fresh = go n refl
    where
      go : (k : ℕ) → n ≡ k → (line_at (shape_of p n) a (banks_of internal' external' m)).samples ≡ (line_at (shape_of p n) a (banks_of internal external m)).samples
      go zero q = no_samples_lem (shape_of p n) a _ q ∙ sym (no_samples_lem (shape_of p n) a _ q)
      go (suc k) q =
          samples_by (shape_of p n) internal' external' a m (cleared l m)
          ∙ ap (λ (b : Banks). (line_at (shape_of p n) a b).samples) e
          ∙ ap (λ (t : Line). t.samples)
          (write_other (shape_of p n) (fits p _ _ n h) a _ (banks_of internal external m)
          (λ same. true≢false (sym (apart (omega arith) (sym same)) ∙ ap (λ (c : BufferIndex). stale_at c m) (sym same) ∙ fresh)))

  pub heard_again : (a : BufferIndex) → ApartFrom m n l a
      → heard n (line_at (shape_of p n) a (banks_of internal' external' m)) ≡ heard n (line_at (shape_of p n) a (banks_of internal external m))
  heard_again a apart =
      heard_by (shape_of p n) internal' external' a n m
      ∙ go (stale_at a m) refl
      ∙ sym (heard_by (shape_of p n) internal external a n m)
    where
      go : (s : Bool) → stale_at a m ≡ s
          → cond s (replicate n zero64) (line_at (shape_of p n) a (banks_of internal' external' m)).samples
          ≡ cond s (replicate n zero64) (line_at (shape_of p n) a (banks_of internal external m)).samples
      go true q = refl
      go false q = samples_again a apart q
