-- `numbers::small::whole_part` meets its contract. Up to 2 ^ 53 the cast loses nothing but the fraction, and from there on there is none.
-- Assumes nothing.
use denote.Floats.{passes}
use Rattle.numbers.proofs.Range.{cast_low, cast_high}
use Rattle.numbers.proofs.WholePart.{magnitude_within, small_whole, large_whole}
use Rattle.numbers.proofs.small.whole_part.Goals as goal

pub truncating_f64_to_u64-whole-requires : goal.truncating_f64_to_u64-whole-requires
truncating_f64_to_u64-whole-requires c =
    let magnitude = c.absolute-magnitude.ensures in
    let w = magnitude_within _ (rw magnitude at c.if-magnitude.true) in
    record { lower_bound = rw magnitude (cast_low w); upper_bound = rw magnitude (cast_high w) }

pub returns-then-magnitude : goal.returns-then-magnitude
returns-then-magnitude c =
    let magnitude = c.absolute-magnitude.ensures in
    rw (c.copysign.ensures, c.nearest_u64_to_f64.ensures, c.truncating_f64_to_u64-whole.ensures, magnitude)
    (small_whole _ (rw magnitude at c.if-magnitude.true))

pub returns-else-magnitude : goal.returns-else-magnitude
returns-else-magnitude c = large_whole _ (passes _ c.well_formed.0.1) (rw c.absolute-magnitude.ensures at c.if-magnitude.false)
