-- `numbers::zeros::all_plus_zero` meets its contract. The invariant: the differences and the samples behind the eights that were taken tell of all samples.
-- Assumes nothing.
use Rattle.std.proofs.Common.{◌≡◌, ◌*◌, ◌&&◌, drop}
use Rattle.numbers.specs.Zeros.{all_plus_zero}
use Rattle.numbers.specs.Inside.{all_minus_zero}
use Rattle.numbers.proofs.zeros.all_plus_zero.Given as goal

abbrev pub invariant-loop-eight : goal.invariant-loop-eight
invariant-loop-eight l = (all_minus_zero l.differences && all_plus_zero (drop (l.eight-index * 8) l.s)) ≡ all_plus_zero l.s
