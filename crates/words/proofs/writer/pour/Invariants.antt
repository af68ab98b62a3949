-- `words::writer::pour` meets its contract. The loop's invariant: the samples that are left, put from here on, give what the definition
-- gives for the whole. Assumes nothing.
use Rattle.std.proofs.Common.{◌≡◌, ◌-◌, ◌<◌, ◌≤◌, length}
use Rattle.words.specs.Writer.{pours_of, poured_of}
use Rattle.words.proofs.writer.pour.Given as goal

abbrev pub invariant-loop-next : goal.invariant-loop-next
invariant-loop-next l = (length l.bytes ≡ length l.initial.bytes) × (pours_of (length l.samples - l.next) l.bytes l.at l.samples l.next ≡ poured_of l.initial.bytes l.to l.samples l.from) × (l.from < l.next → l.next ≤ length l.samples)
