-- `magnetron::write::put` meets its contract: in each arm `Putting` says that the inputs lie clear of the output, and that what the loop leaves is the definition's write.
-- Assumes nothing.
use native.Mathlib.Omega.{arith}
use Rattle.magnetron.proofs.Places.{only, former, latter}
use Rattle.magnetron.proofs.write.Putting.{output_small, input_small, output_lies, input_clear, long, values-lent, values_one, values_two, laid-over}
use Rattle.magnetron.proofs.write.put.Goals as goal

pub base_of-requires : goal.base_of-requires
base_of-requires c = output_small c.requires

pub lay-requires : goal.lay-requires
lay-requires c =
    let pre = c.requires in
    let base = c.base_of in
    let h = long pre c.in-Nothing.is in
    (rw base.ensures (output_lies pre), omega arith)

pub returns-in-Nothing : goal.returns-in-Nothing
returns-in-Nothing c =
    let pre = c.requires in
    let marks = c.marks-marks in
    let mark = c.at in
    let base = c.base_of in
    let lay = c.lay in
    laid-over pre _ _ _ (values-lent pre c.in-Nothing.is) (rw (base.ensures, mark.ensures, marks.ensures) at lay.ensures)

pub source_of-first-requires : goal.source_of-first-requires
source_of-first-requires c =
    let pre = c.requires in
    input_small pre _ (only c.in-One.is)

pub lay-requires-in-One : goal.lay-requires-in-One
lay-requires-in-One c =
    let pre = c.requires in
    let marks = c.marks-marks in
    let base = c.base_of in
    (rw base.ensures (output_lies pre), rw (c.source_of-first.ensures, base.ensures, marks.ensures) (input_clear pre _ (only c.in-One.is)))

pub returns-in-One : goal.returns-in-One
returns-in-One c =
    let pre = c.requires in
    let marks = c.marks-marks in
    let mark = c.at in
    let base = c.base_of in
    let source = c.source_of-first in
    let lay2 = c.lay-in-One in
    laid-over pre _ _ _ (values_one pre _ c.in-One.is) (rw (base.ensures, mark.ensures, source.ensures, marks.ensures) at lay2.ensures)

pub source_of-first-requires-in-Two : goal.source_of-first-requires-in-Two
source_of-first-requires-in-Two c =
    let pre = c.requires in
    input_small pre _ (former c.in-Two.is)

pub source_of-second-requires : goal.source_of-second-requires
source_of-second-requires c =
    let pre = c.requires in
    input_small pre _ (latter c.in-Two.is)

pub lay-requires-in-Two : goal.lay-requires-in-Two
lay-requires-in-Two c =
    let pre = c.requires in
    let marks = c.marks-marks in
    let base = c.base_of in
    let source2 = c.source_of-first-in-Two in (
      rw base.ensures (output_lies pre),
      (
        rw (source2.ensures, base.ensures, marks.ensures) (input_clear pre _ (former c.in-Two.is)),
        rw (c.source_of-second.ensures, base.ensures, marks.ensures) (input_clear pre _ (latter c.in-Two.is)),
      ),
    )

pub returns-in-Two : goal.returns-in-Two
returns-in-Two c =
    let pre = c.requires in
    let marks = c.marks-marks in
    let mark = c.at in
    let base = c.base_of in
    let source2 = c.source_of-first-in-Two in
    let source3 = c.source_of-second in
    let lay3 = c.lay-in-Two in
    laid-over pre _ _ _ (values_two pre _ _ c.in-Two.is) (rw (base.ensures, mark.ensures, source2.ensures, source3.ensures, marks.ensures) at lay3.ensures)
