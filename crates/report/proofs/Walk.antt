-- A walk over lent samples, or over the words that lent bytes make: what is still to come, added to the report so far, is what the whole gives.
-- Assumes nothing.
use mathlib.Core.Path.{◌≡◌, refl, sym}
use mathlib.Core.List.{List, [], ◌∷◌, map}
use Prim.Native.Nat.{ℕ, zero, suc, ◌+◌, ◌<◌, ◌≤◌}
use native.Mathlib.Numerals.{add-one}
use native.Mathlib.Omega.{arith}
use lib.ListN.{length, drop, get_or, drop_of_length-le}
use lib.Seq.{drop-cons}
use Rattle.std.specs.Int.{w64, from_le_bytes}
use Rattle.std.specs.Simd.{first_chunks}
use Rattle.words.specs.Word.{word_of}
use Rattle.report.specs.Report.{after}
use Rattle.report.specs.Bytes.{first_samples}
use Rattle.report.specs.declared.report.Report.{Report}
use Rattle.report.proofs.Step.{after_none, after_first}

-- a list of what has a sample's bits, from i on
module _ {A : Type 0} (bits_of : A → ℕ) (r : Report) (xs : List A) (i : ℕ) where
  pub walk_more : (x : A) (bits : ℕ) → i < length xs → bits ≡ bits_of (get_or xs i x)
      → after (after r (bits ∷ [])) (map bits_of (drop (i + 1) xs)) ≡ after r (map bits_of (drop i xs))
  walk_more x bits h e = rw (add-one, drop-cons xs i x, e) (sym (after_first r _ _))

  pub walk_done : length xs ≤ i → after r (map bits_of (drop i xs)) ≡ r
  walk_done h = rw drop_of_length-le (after_none r)

-- the lowest byte comes first
pub low_first : (bytes : List ℕ) → length bytes ≡ 8 → from_le_bytes w64 bytes ≡ word_of bytes
low_first (a ∷ b ∷ c ∷ d ∷ e ∷ f ∷ g ∷ h ∷ []) eight = omega arith
low_first bytes eight = omega arith

pub words_of : (n : ℕ) (bytes : List ℕ) → map word_of (first_chunks 8 n bytes) ≡ first_samples n bytes
unfolding first_samples
words_of zero bytes = refl
words_of (suc n) bytes = rw (words_of n (drop 8 bytes))
