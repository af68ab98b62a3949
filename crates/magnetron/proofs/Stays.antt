-- What a write leaves as it was, and what a read of a stale buffer gives, of any buffers in any pools. Assumes nothing.
--     write_other, of `Writes`    the mark and the first n samples of another buffer
--     others_stay                 all samples of another buffer
--     rest_stays                  the samples from n on of the buffer that is written
--     prepare_keeps               the external pool's record, prepared or refused
--     stale_reads_zeros           n zeros
use mathlib.Core.Path.{◌≡◌, refl}
use mathlib.Core.Logic.{◌≢◌, inl, inr}
use mathlib.Core.Bool.{Bool, true, false, cond}
use mathlib.Core.List.{List}
use Prim.Native.Nat.{ℕ, ◌+◌, ◌-◌, ◌*◌, ◌≤◌}
use native.Mathlib.Nat.{le_refl}
use native.Mathlib.Omega.{arith}
use lib.ListN.{take, drop, replicate}
use lib.Ieee.{Float}
use Rattle.numbers.specs.Constants.{zero64}
use Rattle.order.specs.Checks.{passed}
use Rattle.magnetron.specs.Buffers.{index_of, Shape, Bank, Banks, Line, Write, capacity_at, bank_at, with_line, with_line_at, line_of, line_at, heard, laid, write, marks_of, stale_at}
use Rattle.magnetron.specs.Pools.{prepared_pools}
use Rattle.magnetron.specs.Inside.Source.{Apart}
use Rattle.magnetron.specs.Single.{Lent, prepare_fault, prepared_of}
use Rattle.magnetron.specs.declared.buffer.BufferIndex.{BufferIndex}
use Rattle.magnetron.specs.declared.buffer.BufferIndex.TheVariants.{Internal, External}
use Rattle.magnetron.proofs.Parts.{read_apart, buffers_apart}

-- ---- one pool

-- m samples of a pool, from one on
abbrev part : ℕ → ℕ → Bank → List Float
part from m p = take m (drop from p.samples)

module _ (capacity n : ℕ) (fits : n ≤ capacity) where
  apart : (i j : ℕ) → i ≢ j → Apart (i * capacity) capacity (j * capacity) n
  apart i j d = go (buffers_apart i j capacity capacity (le_refl capacity) d)
    where
      go : Apart (i * capacity) capacity (j * capacity) capacity → Apart (i * capacity) capacity (j * capacity) n
      go (inl h) = inl h
      go (inr h) = inr (omega arith)

  other_part : (i j : ℕ) (l : Line) (p : Bank) → i ≢ j → part (i * capacity) capacity (with_line capacity n j l p) ≡ part (i * capacity) capacity p
  unfolding with_line
  other_part i j l p d = read_apart p.samples l.samples capacity (i * capacity) n (j * capacity) (apart i j d)

  rest_part : (m j : ℕ) (l : Line) (p : Bank) → part (j * capacity + n) m (with_line capacity n j l p) ≡ part (j * capacity + n) m p
  unfolding with_line
  rest_part m j l p = read_apart p.samples l.samples m (j * capacity + n) n (j * capacity) (inr (le_refl (j * capacity + n)))

-- ---- both pools: "Samples from n on, and other buffers, stay."

-- all samples of a buffer, and those from n on
abbrev pub samples_at : Shape → BufferIndex → Banks → List Float
samples_at h b p = part (index_of b * capacity_at h b) (capacity_at h b) (bank_at b p)

abbrev pub rest_at : Shape → BufferIndex → Banks → List Float
rest_at h b p = part (index_of b * capacity_at h b + h.window) (capacity_at h b - h.window) (bank_at b p)

module _ (h : Shape) (fits : (b : BufferIndex) → h.window ≤ capacity_at h b) where
  pub others_stay : (b : BufferIndex) (u : Write) (p : Banks) → b ≢ u.to → samples_at h b (write h u p) ≡ samples_at h b p
  unfolding write with_line_at
  others_stay b u p d = go b u.to (laid (line_at h u.to p) u.values) d
    where
      go : (b c : BufferIndex) (l : Line) → b ≢ c → samples_at h b (with_line_at h c l p) ≡ samples_at h b p
      go (Internal i) (Internal j) l d = other_part h.internal h.window (fits (Internal i)) i j l p.internal (λ e. d (rw e))
      go (Internal i) (External j) l d = refl
      go (External i) (Internal j) l d = refl
      go (External i) (External j) l d = other_part h.external h.window (fits (External i)) i j l p.external (λ e. d (rw e))

  pub rest_stays : (u : Write) (p : Banks) → rest_at h u.to (write h u p) ≡ rest_at h u.to p
  unfolding write with_line_at
  rest_stays u p = go u.to (laid (line_at h u.to p) u.values)
    where
      go : (c : BufferIndex) (l : Line) → rest_at h c (with_line_at h c l p) ≡ rest_at h c p
      go (Internal j) l = rest_part h.internal h.window (fits (Internal j)) (h.internal - h.window) j l p.internal
      go (External j) l = rest_part h.external h.window (fits (External j)) (h.external - h.window) j l p.external

-- ---- prepare: "their marks are not touched by prepare"

pub prepare_keeps : (l : Lent) → (prepared_of l).pools.external ≡ l.pools.external
unfolding prepared_of
prepare_keeps l = by (passed (prepare_fault l))
  where
    by : (t : Bool) → (cond t (prepared_pools l.pools) l.pools).external ≡ l.pools.external
    by true = refl
    by false = refl

-- ---- a read: ".. or n zeros where it is stale". So "A stage whose output is its input and stale reads zeros."

pub stale_reads_zeros : (h : Shape) (n : ℕ) (b : BufferIndex) (p : Banks) → stale_at b (marks_of p) ≡ true → heard n (line_at h b p) ≡ replicate n zero64
unfolding heard line_at line_of stale_at
stale_reads_zeros h n (Internal k) p e = rw e
stale_reads_zeros h n (External k) p e = rw e
