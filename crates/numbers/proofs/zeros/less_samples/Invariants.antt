-- `numbers::zeros::less_samples` meets its contract. The invariant: the differences and the samples from k on tell what they told at the start.
-- Assumes nothing.
use Rattle.std.proofs.Common.{◌≡◌, ◌&&◌, length, drop}
use Rattle.numbers.specs.Zeros.{all_plus_zero}
use Rattle.numbers.specs.Inside.{all_minus_zero}
use Rattle.numbers.proofs.zeros.less_samples.Given as goal

abbrev pub invariant-loop-k : goal.invariant-loop-k
invariant-loop-k l = (length l.differences ≡ 8) × ((all_minus_zero l.differences && all_plus_zero (drop l.k l.samples)) ≡ (all_minus_zero l.initial.differences && all_plus_zero l.samples))
