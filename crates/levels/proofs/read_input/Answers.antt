use Rattle.std.proofs.Common.{refl, arith, length-take}
use Rattle.report.specs.Report.{told}
use Rattle.report.proofs.WholeInput.{accepted_grows}
use Rattle.levels.proofs.read_input.Goals as goal

pub loop-count-smaller : goal.loop-count-smaller
unfolding told
loop-count-smaller c =
    let w = c.loop-count in
    let grown = accepted_grows w.report _ _ c.in_ok-add_bytes.ensures refl (simp length-take (omega (arith, c.requires, w.invariant, c.in_ok-count.ensures, c.if-count-bytes.false))) in
    omega arith
