-- `words::writer::put` meets its contract: it gives up where `put_of` tests that fewer than eight bytes are left. Assumes nothing.
use Rattle.std.proofs.Common.{◌≡◌, ◌∙◌, refl, ap, ℕ, ◌+◌, ◌≤◌, List, length, Some, arith}
use borrow.Author.Tests.{le-leb}
use Rattle.words.specs.Word.{bytes_of}
use Rattle.words.specs.Writer.{put_of}
use Rattle.words.proofs.writer.Putting.{low_first, put_there}
use Rattle.words.proofs.writer.put.Goals as goal

pub returns : goal.returns
unfolding put_of
returns c =
    let a = c.args in
    let some = c.in_ok-room.ensures in
    let lies : a.at + 8 ≤ length a.bytes.now = omega arith in
    let written : c.copy_from_slice.new.self ≡ bytes_of 8 a.word = c.copy_from_slice.ensures.after ∙ c.to_le_bytes.ensures ∙ low_first a.word in
    rw (le-leb (a.at + 8) (length a.bytes.now) lies) (ap (λ (after : List ℕ). (Some (a.at + 8), after)) (put_there a.bytes.now _ _ a.at lies refl written))
