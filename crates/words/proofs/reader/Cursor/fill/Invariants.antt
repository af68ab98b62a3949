-- `words::reader::Cursor::fill` meets its contract. The loop's invariant: what is left to fill, filled from what is left, is what the
-- definition gives for the whole. Assumes nothing.
use Rattle.std.proofs.Common.{◌≡◌, ◌-◌, ◌<◌, ◌≤◌, length}
use Rattle.words.specs.Reader.{fills_of, filled_of}
use Rattle.words.proofs.reader.Cursor.fill.Given as goal

abbrev pub invariant-loop-next : goal.invariant-loop-next
invariant-loop-next l = (length l.samples ≡ length l.initial.samples) × (fills_of l.bytes (length l.samples - l.next) l.cursor l.samples l.next ≡ filled_of l.bytes l.initial.cursor l.initial.samples l.from) × (l.from < l.next → l.next ≤ length l.samples)
