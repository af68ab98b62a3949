-- Each public contract of `words` determines what is seen of a call: its result, and what it leaves in the samples or bytes that it is lent to
-- change. `Reads.Post`, which Rattle makes of a function's `ensures`, is the contract itself: no copy of it is written here. Assumes nothing.
use Prim.Native.Nat.{ℕ}
use mathlib.Core.List.{List}
use lib.Ieee.{Float}
use Rattle.numbers.specs.Outcome.{Answer, Determined, by_definition}
use Rattle.words.specs.declared.reader.Cursor.{Cursor}
use Rattle.words.specs.declared.reader.Filled.{Filled}
use Rattle.words.specs.declared.writer.Poured.{Poured}
use Rattle.std.specs.Prelude.{Option}
use Rattle.words.proofs.number.from_word.Reads as from-word
use Rattle.words.proofs.number.to_word.Reads as to_word
use Rattle.words.proofs.reader.Cursor.left.Reads as left
use Rattle.words.proofs.reader.Cursor.take.Reads as take
use Rattle.words.proofs.reader.Cursor.fill.Reads as fill
use Rattle.words.proofs.reader.Cursor.front.Reads as front
use Rattle.words.proofs.writer.put.Reads as put
use Rattle.words.proofs.writer.pour.Reads as pour

pub number_determined : Answer from-word.Post × Answer to_word.Post
number_determined = (by_definition, by_definition)

pub reader_determined : Answer left.Post × Answer take.Post
    × Determined {O = Filled × List Float} (λ r s. (r, s.1.1.0.now)) fill.Post
    × Determined {O = Cursor × List ℕ} (λ r s. (r, s.1.0.now)) front.Post
reader_determined = (by_definition, by_definition, by_definition, by_definition)

pub writer_determined : Determined {O = Option ℕ × List ℕ} (λ r s. (r, s.0.now)) put.Post × Determined {O = Poured × List ℕ} (λ r s. (r, s.0.now)) pour.Post
writer_determined = (by_definition, by_definition)
