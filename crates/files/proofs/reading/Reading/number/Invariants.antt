-- `files::reading::Reading::number` meets its contract: the loop's invariant is `Grouping`; the bytes stay. Assumes nothing.
use Rattle.std.proofs.Common.{◌≡◌}
use Rattle.files.proofs.reading.Groups.{Grouping}
use Rattle.files.proofs.reading.Reading.number.Given as goal

abbrev pub invariant-loop : goal.invariant-loop
invariant-loop l = Grouping l.self.bytes.now l.start l.self.offset l.value l.weight l.counter × (l.self.bytes ≡ l.initial.self.bytes)
