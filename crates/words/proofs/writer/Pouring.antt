-- Samples that are poured into a buffer: where every sample is put, and what follows where one more was tried. Assumes nothing.
use mathlib.Core.Path.{◌≡◌}
use mathlib.Core.List.{List}
use Prim.Native.Nat.{ℕ, suc, ◌+◌, ◌-◌, ◌<◌, ◌≤◌}
use native.Mathlib.Omega.{arith}
use lib.Ieee.{Float, nan}
use lib.ListN.{length, get_or}
use Rattle.words.specs.Number.{to_word}
use Rattle.words.specs.Writer.{put_of, if_stored, pours_of}
use Rattle.std.specs.Prelude.{Option}

module _ (bytes : List ℕ) (at : ℕ) (samples : List Float) (next : ℕ) where
  pub pour_done : length samples ≤ next → pours_of (length samples - next) bytes at samples next ≡ (record { at = at; next = next }, bytes)
  unfolding pours_of
  pour_done h =
      let n : length samples - next ≡ 0 = omega arith in
      rw n

  pub pour_one : next < length samples → (w : ℕ) → w ≡ to_word (get_or samples next nan) → (r : Option ℕ) (after : List ℕ) → (r, after) ≡ put_of bytes at w
      → if_stored r (λ to. pours_of (length samples - (next + 1)) after to samples (next + 1)) (record { at = at; next = next }, after)
      ≡ pours_of (length samples - next) bytes at samples next
  unfolding pours_of
  pour_one lies w is r after put =
      let n : length samples - next ≡ suc (length samples - (next + 1)) = omega arith in
      rw (n, ← is, ← put)
