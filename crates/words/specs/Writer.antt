-- What putting words into a lent buffer leaves. Assumes nothing.
use Rattle.std.specs.Prelude.{ℕ, zero, suc, ◌+◌, ◌-◌, cond, List, Option, None, Some, leb, Float, length, get_or}
use Rattle.std.specs.Float.{nan}
use Rattle.std.proofs.lemmas.List.Edits.{sets}
use Rattle.words.specs.Word.{bytes_of}
use Rattle.words.specs.Number.{to_word}
use Rattle.words.specs.declared.writer.Poured.{Poured}

-- the word's bytes stand from a place on, and the next word goes past them; None where they do not fit
unfoldable pub put_of : List ℕ → ℕ → ℕ → Option ℕ × List ℕ
put_of bytes at w =
    cond (leb (at + 8) (length bytes)) (Some (at + 8), sets bytes at (bytes_of 8 w)) (None, bytes)

-- what follows where a word was put, and what where it was not
abbrev pub if_stored : {A : Type 0} → Option ℕ → (ℕ → A) → A → A
if_stored (Some next) stored full = stored next
if_stored None stored full = full

-- at most n samples from an index on are put, word after word
unfoldable pub pours_of : ℕ → List ℕ → ℕ → List Float → ℕ → Poured × List ℕ
pours_of zero bytes at samples next = (record { at = at; next = next }, bytes)
pours_of (suc n) bytes at samples next =
    let put = put_of bytes at (to_word (get_or samples next nan)) in
    if_stored put.0
    (λ after. pours_of n put.1 after samples (next + 1))
    (record { at = at; next = next }, put.1)

abbrev pub poured_of : List ℕ → ℕ → List Float → ℕ → Poured × List ℕ
poured_of bytes to samples from = pours_of (length samples - from) bytes to samples from
