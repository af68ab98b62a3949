-- Eight bytes as the cursor of `words` takes them, up to the file's end. Assumes nothing.
use mathlib.Core.Path.{◌≡◌, refl, ap, ◌∙◌}
use mathlib.Core.Bool.{Bool, true, false, cond}
use mathlib.Core.List.{List}
use Prim.Native.Nat.{ℕ, ◌+◌}
use native.Mathlib.Nat.{le_refl}
use lib.Dec.{leb}
use lib.ListN.{length, take, drop}
use borrow.Author.Tests.{le-leb}
use Rattle.words.specs.Word.{word_of}
use Rattle.words.specs.Reader.{taken_of}
use Rattle.words.specs.declared.reader.Cursor.{Cursor}
use Rattle.std.specs.Prelude.{Option, Some, None}
use Rattle.files.specs.Reader.{Part, said, refused}
use Rattle.files.specs.File.{eight}

-- what a word that was taken says, and what it says that there is none
abbrev pub as_part : ℕ → Option (ℕ × Cursor) → Part ℕ
as_part start (Some word) = said word.0 word.1.at
as_part start None = refused 20 start

module _ (bytes : List ℕ) (start : ℕ) where
  -- up to the file's end the cursor lacks nothing but bytes
  pub eight_read : (taken : Option (ℕ × Cursor)) → taken ≡ taken_of bytes (record { at = start; end = length bytes }) → as_part start taken ≡ eight bytes start
  unfolding eight taken_of
  eight_read taken e = ap (as_part start) (e ∙ rw (le-leb (length bytes) (length bytes) (le_refl _)) refl) ∙ by (leb (start + 8) (length bytes))
    where
      by : (b : Bool)
          → as_part start (cond b (Some (word_of (take 8 (drop start bytes)), record { at = start + 8; end = length bytes })) None)
          ≡ cond b (said (word_of (take 8 (drop start bytes))) (start + 8)) (refused 20 start)
      by true = refl
      by false = refl
