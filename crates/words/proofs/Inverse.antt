-- Reading and writing undo each other.
--     word_of_bytes, bytes_of_word      a word is made of its eight bytes, and eight bytes are those of the word that they make
--     put_then_taken, taken_then_put    a word that was put is taken again, and one that was taken, put back, changes nothing
--     number_and_back, word_and_back    a number is that of its word, and a word that of its number
--     nan_and_back                      every NaN comes back as 7ff8000000000000: what its own bits were is not kept
-- Assumes nothing.
use mathlib.Core.Path.{◌≡◌, refl, ap, ◌∙◌}
use mathlib.Core.Bool.{true, not}
use mathlib.Core.List.{List, [], ◌∷◌, append_assoc}
use Prim.Native.Nat.{ℕ, zero, suc, ◌+◌, ◌*◌, ◌/◌, ◌%◌, ◌^◌, ◌<◌, ◌≤◌}
use native.Mathlib.Nat.{pow-suc}
use native.Mathlib.Omega.{arith}
use lib.Dec.{T, ltb, ltb→lt}
use lib.Pow.{are_bytes}
use lib.ListN.{length, take, drop, take-append-drop, length-drop}
use lib.Seq.{sets, sets-eq, length-sets, take_at, drop_at, length-take-le, take-add}
use lib.Ieee.{Float, nan, inf, fin, binary64, of_bits, is_nan, fits}
use lib.Ieee.Bits.{of_bits-to_bits, to_bits-of_bits, is_false}
use lib.Ieee.Fits.{and_l, and_r, and_i}
use borrow.Author.Tests.{le-leb}
use Rattle.words.specs.Word.{word_of, bytes_of}
use Rattle.words.specs.Number.{from_word, to_word}
use Rattle.words.specs.Reader.{taken_of}
use Rattle.words.specs.Writer.{put_of}
use Rattle.std.specs.Prelude.{Some}

word_of_lem : (n w : ℕ) → w < 256 ^ n → word_of (bytes_of n w) ≡ w
word_of_lem zero w h = omega arith
word_of_lem (suc n) w h =
    let l : w < 256 ^ n * 256 = rw pow-suc at h in
    rw (word_of_lem n (w / 256) (omega arith)) (omega arith)

pub word_of_bytes : (w : ℕ) → w < 2 ^ 64 → word_of (bytes_of 8 w) ≡ w
word_of_bytes w h = word_of_lem 8 w h

low_byte : (b w : ℕ) → b < 256 → ((b + 256 * w) % 256 ≡ b) × ((b + 256 * w) / 256 ≡ w)
low_byte b w h = omega arith

bytes_of_lem : (bytes : List ℕ) → T (are_bytes bytes) → bytes_of (length bytes) (word_of bytes) ≡ bytes
bytes_of_lem [] h = refl
bytes_of_lem (b ∷ bytes) h =
    let l = low_byte b (word_of bytes) (ltb→lt b 256 (and_l (ltb b 256) (are_bytes bytes) h)) in
    rw (l.0, l.1, bytes_of_lem bytes (and_r (ltb b 256) (are_bytes bytes) h))

pub bytes_of_word : (bytes : List ℕ) → length bytes ≡ 8 → T (are_bytes bytes) → bytes_of 8 (word_of bytes) ≡ bytes
bytes_of_word bytes e h = rw e at (bytes_of_lem bytes h)

-- what was stored stands there
stands : (bytes : List ℕ) (at : ℕ) (vs : List ℕ) → at + length vs ≤ length bytes → take (length vs) (drop at (sets bytes at vs)) ≡ vs
stands bytes at vs h =
    rw (sets-eq vs bytes at h, append_assoc, drop_at (take at bytes) _ at (length-take-le at bytes (omega arith)), take_at vs _ (length vs) refl)

bytes_after : (n : ℕ) (bytes : List ℕ) → T (are_bytes bytes) → T (are_bytes (drop n bytes))
bytes_after zero bytes h = h
bytes_after (suc n) [] h = tt
bytes_after (suc n) (b ∷ bytes) h = bytes_after n bytes (and_r (ltb b 256) (are_bytes bytes) h)

bytes_before : (n : ℕ) (bytes : List ℕ) → T (are_bytes bytes) → T (are_bytes (take n bytes))
bytes_before zero bytes h = tt
bytes_before (suc n) [] h = tt
bytes_before (suc n) (b ∷ bytes) h =
    and_i (ltb b 256) (are_bytes (take n bytes)) (and_l (ltb b 256) (are_bytes bytes) h)
    (bytes_before n bytes (and_r (ltb b 256) (are_bytes bytes) h))

module _ (bytes : List ℕ) (at : ℕ) (lies : at + 8 ≤ length bytes) where
  pub put_then_taken : (w : ℕ) → w < 2 ^ 64
      → taken_of (put_of bytes at w).1 (record { at = at; end = at + 8 }) ≡ Some (w, record { at = at + 8; end = at + 8 })
  unfolding taken_of put_of
  put_then_taken w h =
      let fits : at + 8 ≤ length (sets bytes at (bytes_of 8 w)) = rw length-sets lies in
      simp (le-leb (at + 8) (length bytes) lies, le-leb (at + 8) (at + 8) (omega arith), le-leb _ _ fits, stands bytes at (bytes_of 8 w) lies, word_of_bytes w h)

  there : length (take 8 (drop at bytes)) ≡ 8
  there = length-take-le 8 (drop at bytes) (rw length-drop (omega arith))

  unchanged : sets bytes at (take 8 (drop at bytes)) ≡ bytes
  unchanged = sets-eq (take 8 (drop at bytes)) bytes at (rw there lies) ∙ rw (there, ← take-add, take-append-drop)

  pub taken_then_put : T (are_bytes bytes) → put_of bytes at (word_of (take 8 (drop at bytes))) ≡ (Some (at + 8), bytes)
  unfolding put_of
  taken_then_put h =
      rw (le-leb (at + 8) (length bytes) lies)
      (ap (λ (vs : List ℕ). (Some (at + 8), sets bytes at vs)) (bytes_of_word (take 8 (drop at bytes)) there (bytes_before 8 (drop at bytes) (bytes_after at bytes h)))
      ∙ ap (λ (l : List ℕ). (Some (at + 8), l)) unchanged)

pub number_and_back : (x : Float) → T (fits binary64 x) → from_word (to_word x) ≡ x
unfolding to_word is_nan of_bits
number_and_back nan h = refl
number_and_back (inf s) h = of_bits-to_bits binary64 (inf s) h
number_and_back (fin s m e) h = of_bits-to_bits binary64 (fin s m e) h

pub word_and_back : (w : ℕ) → w < 2 ^ 64 → T (not (is_nan (from_word w))) → to_word (from_word w) ≡ w
unfolding to_word
word_and_back w h n = simp (is_false (is_nan (from_word w)) n, to_bits-of_bits binary64 w h n)

pub nan_and_back : (w : ℕ) → is_nan (from_word w) ≡ true → to_word (from_word w) ≡ 0x7ff8_0000_0000_0000
unfolding to_word
nan_and_back w n = simp n
