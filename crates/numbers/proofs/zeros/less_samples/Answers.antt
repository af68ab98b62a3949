use Rattle.std.proofs.Common.{◌≤◌, length, ◌∙◌, arith, rules, drop_of_length-le}
use mathlib.Core.Bool.{and-true}
use Rattle.numbers.specs.Zeros.{all_plus_zero}
use Rattle.numbers.proofs.zeros.Scan.{less_step}
use Rattle.numbers.proofs.zeros.less_samples.Goals as goal

pub loop-k-preserved : goal.loop-k-preserved
loop-k-preserved c =
    (search rules, less_step c.loop-k.differences c.args.samples.now c.loop-k.k c.loop-k.k _ (omega arith) (omega arith) c.less.ensures ∙ c.loop-k.invariant.1)

pub returns : goal.returns
unfolding all_plus_zero
returns c =
    let s = c.args.samples.now in
    let past : length s ≤ c.loop-k.k = omega arith in
    rw (drop_of_length-le s past, and-true) at c.loop-k.invariant.1
