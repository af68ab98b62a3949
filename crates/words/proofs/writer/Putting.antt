-- A word that is put as eight bytes, the lowest first. Assumes nothing.
use Rattle.std.proofs.Common.{◌≡◌, ℕ, ◌+◌, ◌-◌, ◌≤◌, List, length, arith}
use Rattle.std.proofs.lemmas.List.{append_assoc, drop-drop}
use Rattle.std.proofs.lemmas.List.Edits.{sets, sets-eq}
use Rattle.std.specs.Int.{w64, to_le_bytes}
use borrow.Rule.Slice.PartMut.{put_mid}
use Rattle.words.specs.Word.{bytes_of}

pub low_first : (word : ℕ) → to_le_bytes w64 word ≡ bytes_of 8 word
low_first word = grind arith

-- eight bytes that took the place of those from `at` on
pub put_there : (bytes vs new : List ℕ) (at : ℕ) → at + 8 ≤ length bytes → length vs ≡ 8 → new ≡ vs → put_mid at (at + 8 - at) bytes new ≡ sets bytes at vs
put_there bytes vs new at lies eight same =
    let n : at + 8 - at ≡ 8 = omega arith in
    rw (same, n, drop-drop, sets-eq vs bytes at (omega arith), eight, append_assoc)
