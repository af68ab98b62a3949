-- `magnetron::lent::LentMut::write_1` meets its contract: past the check, the output's kind says which pool is written, and `put` leaves the definition's write there.
-- Assumes nothing.
use mathlib.Core.Path.{sym}
use Rattle.answers.proofs.Verdicts.{accepted}
use Rattle.magnetron.specs.declared.buffer.BufferIndex.TheVariants.{External, Internal}
use Rattle.magnetron.proofs.Faults.{writable}
use Rattle.magnetron.proofs.write.Putting.{write-refused, write_done}
use Rattle.magnetron.proofs.lent.LentMut.write_1.Goals as goal
use Rattle.magnetron.proofs.lent.LentMut.write_1.Goals.{in-External, in-Internal}

pub returns-in-Err-clause-wrote : goal.returns-in-Err-clause-wrote
returns-in-Err-clause-wrote c = write-refused _ _ _ _ _ _ (sym (rw c.shared.ensures at c.in-Err.ensures))

pub put-requires : goal.put-requires
put-requires c = writable _ _ _ (External _) c.in-External.is (accepted _ (sym (rw c.shared.ensures at c.in_default.ensures)))

pub put-requires-in-Internal : goal.put-requires-in-Internal
put-requires-in-Internal c = writable _ _ _ (Internal _) c.in-Internal.is (accepted _ (sym (rw c.shared.ensures at c.in_default.ensures)))

pub returns-clause-wrote : goal.returns-clause-wrote
returns-clause-wrote c =
    let h = sym (rw c.shared.ensures at c.in_default.ensures) in
    elim c.match-output.branch [
      | in-External w ↦ rw (c.finished.ensures, w.self-is) (write_done _ _ _ _ (External _) w.in-External.is h _ (rw c.unwrap_or-level.ensures at w.put.ensures))
      | in-Internal w ↦ rw (c.finished.ensures, w.self-is) (write_done _ _ _ _ (Internal _) w.in-Internal.is h _ (rw c.unwrap_or-level.ensures at w.put-in-Internal.ensures))
    ]
