-- `files::reading::Reading::stages` meets its contract: the loop's invariant is `Staging`; the bytes stay. Assumes nothing.
use Rattle.std.proofs.Common.{◌≡◌}
use Rattle.files.proofs.reading.Staging.{Staging}
use Rattle.files.proofs.reading.Reading.stages.Given as goal

abbrev pub invariant-loop-k : goal.invariant-loop-k
invariant-loop-k l = Staging l.self.bytes.now l.count l.initial.self.offset l.patch l.self.offset l.k × (l.self.bytes ≡ l.initial.self.bytes)
