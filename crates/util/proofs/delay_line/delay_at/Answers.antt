-- `util::delay_line::delay_at` meets its contract: the offset of a ring is from 0 to its last slot, so it is rounded up as the definition has it. Assumes nothing.
use Rattle.std.proofs.Common.{◌∙◌, sym, arith}
use Rattle.util.proofs.Delay.{delay_made, delay-there}
use Rattle.util.proofs.delay_line.delay_at.Goals as goal

pub returns : goal.returns
returns c =
    let small = c.in-Ok.first.there.1 in
    rw (← c.in-Ok.ensures.found.2)
    (delay_made _ _ small c.nearest_u64_to_f64-last.ensures c.held-held.ensures c.rounded_up-up.ensures c.reach_of.ensures ∙ sym (delay-there _ _ small (omega arith)))
