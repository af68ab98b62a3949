-- Samples that are filled from a buffer: where the loop goes on, where no word is left, and where every sample is filled. Assumes nothing.
use mathlib.Core.Path.{◌≡◌, refl}
use mathlib.Core.List.{List}
use Prim.Native.Nat.{ℕ, zero, suc, ◌+◌, ◌-◌, ◌<◌, ◌≤◌}
use native.Mathlib.Omega.{arith}
use lib.Ieee.{Float}
use lib.ListN.{length, set, length-set}
use Rattle.words.specs.Number.{from_word}
use Rattle.words.specs.Reader.{taken_of, fills_of}
use Rattle.words.specs.declared.reader.Cursor.{Cursor}
use Rattle.std.specs.Prelude.{None, Some}

module _ (bytes : List ℕ) (c : Cursor) (samples : List Float) (next : ℕ) where
  pub fill_more : (w : ℕ) (rest : Cursor) (x : Float) → next < length samples → taken_of bytes c ≡ Some (w, rest) → x ≡ from_word w
      → fills_of bytes (length (set samples next x) - (next + 1)) rest (set samples next x) (next + 1)
      ≡ fills_of bytes (length samples - next) c samples next
  unfolding fills_of
  fill_more w rest x h t e =
      let n : length samples - next ≡ suc (length samples - (next + 1)) = omega arith in
      rw (length-set, n, t, e)

  pub fill_short : (n : ℕ) → taken_of bytes c ≡ None → fills_of bytes n c samples next ≡ (record { cursor = c; next = next }, samples)
  unfolding fills_of
  fill_short zero t = refl
  fill_short (suc n) t = rw t

  pub fill_done : length samples ≤ next → fills_of bytes (length samples - next) c samples next ≡ (record { cursor = c; next = next }, samples)
  unfolding fills_of
  fill_done h =
      let n : length samples - next ≡ 0 = omega arith in
      rw n
