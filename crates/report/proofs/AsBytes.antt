-- Windows and their bytes give the same: what `add` makes of samples is what `add_bytes` makes of their bytes, eight to each, low byte first.
-- Assumes nothing.
use mathlib.Core.Path.{◌≡◌, refl}
use mathlib.Core.List.{List, [], ◌∷◌, ◌++◌}
use Prim.Native.Nat.{ℕ, ◌*◌, ◌/◌, ◌%◌, ◌^◌, ◌<◌}
use native.Mathlib.Omega.{arith}
use borrow.Author.Tests.{eq-eqb}
use lib.ListN.{length}
use Rattle.words.specs.Word.{bytes_of}
use Rattle.words.proofs.Inverse.{word_of_bytes}
use Rattle.report.specs.Report.{added_of}
use Rattle.report.specs.Bytes.{first_samples, added_bytes_of}
use Rattle.report.specs.declared.report.Report.{Report}

-- samples as bytes
abbrev pub as_bytes : List ℕ → List ℕ
as_bytes [] = []
as_bytes (x ∷ xs) = bytes_of 8 x ++ as_bytes xs

-- each is the bits of a sample
abbrev pub AreBits : List ℕ → Type 0
AreBits [] = Unit
AreBits (x ∷ xs) = (x < 2 ^ 64) × AreBits xs

eight-each : (xs : List ℕ) → length (as_bytes xs) ≡ 8 * length xs
eight-each [] = refl
eight-each (x ∷ xs) = omega (arith, eight-each xs)

read_again : (xs : List ℕ) → AreBits xs → first_samples (length xs) (as_bytes xs) ≡ xs
unfolding first_samples
read_again [] h = refl
read_again (x ∷ xs) h = rw (word_of_bytes x h.0, read_again xs h.1)

pub as_bytes_lem : (r : Report) (xs : List ℕ) → AreBits xs → added_bytes_of r (as_bytes xs) ≡ added_of r xs
unfolding added_bytes_of added_of
as_bytes_lem r xs h =
    let n : length (as_bytes xs) / 8 ≡ length xs = omega (arith, eight-each xs) in
    let whole = eq-eqb (length (as_bytes xs) % 8) 0 (omega (arith, eight-each xs)) in
    simp (whole, n, read_again xs h)
