-- `words::reader::Cursor::take` meets its contract: it gives up where `taken_of` tests that fewer than eight bytes are left. Assumes nothing.
use Rattle.std.proofs.Common.{◌≡◌, ◌+◌, ◌∙◌, take, drop, arith}
use Rattle.std.proofs.lemmas.List.{take-take}
use borrow.Author.Tests.{le-leb}
use Rattle.words.specs.Word.{word_of}
use Rattle.words.specs.Reader.{taken_of}
use Rattle.words.proofs.reader.Eight.{read_whole, low_first}
use Rattle.words.proofs.reader.Cursor.take.Goals as goal

pub returns : goal.returns
unfolding taken_of
returns c =
    let bytes = c.args.bytes.now in
    let s = c.args.self in
    let left = c.in_ok-left.ensures.lookup.0 in
    let eight = c.in_ok-get.ensures.lookup.0 in
    let same = read_whole c.try_into.result _ _ _ _ c.in_ok-word.ensures.value c.try_into.ensures.1 in
    let there : c.in_ok-word.word ≡ take 8 (drop s.at bytes) = same ∙ eight.2 ∙ rw left.2 (take-take 8 _ _ (omega arith)) in
    let word : c.from_le_bytes.result ≡ word_of (take 8 (drop s.at bytes)) =
    c.from_le_bytes.ensures ∙ low_first c.in_ok-word.word (rw same (omega (arith, eight.3))) ∙ rw there in
    simp (le-leb _ _ left.1, le-leb (s.at + 8) s.end (omega arith), word)
