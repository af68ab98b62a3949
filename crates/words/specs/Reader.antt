-- What taking words from a lent buffer gives. Assumes nothing.
use Rattle.std.specs.Prelude.{ℕ, zero, suc, ◌+◌, ◌-◌, cond, ◌&&◌, List, Option, None, Some, leb, Float, length, take, drop, set}
use Rattle.std.proofs.Math.Seq.{paste}
use Rattle.words.specs.Word.{word_of}
use Rattle.words.specs.Number.{from_word}
use Rattle.words.specs.declared.reader.Cursor.{Cursor}
use Rattle.words.specs.declared.reader.Filled.{Filled}

-- the eight bytes at the cursor make a word, and the cursor stands past them; None where fewer are left
unfoldable pub taken_of : List ℕ → Cursor → Option (ℕ × Cursor)
taken_of bytes c =
    cond (leb c.end (length bytes) && leb (c.at + 8) c.end)
    (Some (word_of (take 8 (drop c.at bytes)), record { at = c.at + 8; end = c.end }))
    None

-- what follows where a word was taken, and what where none was
abbrev pub if_taken : {A : Type 0} → Option (ℕ × Cursor) → (ℕ → Cursor → A) → A → A
if_taken (Some word) taken short = taken word.0 word.1
if_taken None taken short = short

-- at most n samples from an index on are filled, word after word
unfoldable pub fills_of : List ℕ → ℕ → Cursor → List Float → ℕ → Filled × List Float
fills_of bytes zero c samples at = (record { cursor = c; next = at }, samples)
fills_of bytes (suc n) c samples at =
    if_taken (taken_of bytes c)
    (λ w rest. fills_of bytes n rest (set samples at (from_word w)) (at + 1))
    (record { cursor = c; next = at }, samples)

abbrev pub filled_of : List ℕ → Cursor → List Float → ℕ → Filled × List Float
filled_of bytes c samples from = fills_of bytes (length samples - from) c samples from

-- what is left stands at the front; where the cursor is past its end, or its end past the buffer's, nothing is left
unfoldable pub front_of : List ℕ → Cursor → Cursor × List ℕ
front_of bytes c =
    cond (leb c.end (length bytes) && leb c.at c.end)
    (record { at = 0; end = c.end - c.at }, paste bytes 0 (drop c.at bytes) (c.end - c.at))
    (record { at = 0; end = 0 }, bytes)
