-- Why a stretch was refused, by document 02's numbers. Assumes nothing.
use Rattle.std.specs.Prelude.{ℕ}
use Rattle.report.specs.declared.refused.Refused.{Refused}
use Rattle.report.specs.declared.refused.Refused.TheVariants.{TooManySamples, CutSample}

-- "30, more than 4,294,967,295 samples", "34, input that ends inside a sample"
abbrev pub number_of : Refused → ℕ
number_of TooManySamples = 30
number_of CutSample = 34
