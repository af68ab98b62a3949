-- Of a sample that is no zero and no NaN the highest bit tells the sign. Assumes nothing.
use mathlib.Core.Path.{◌≡◌}
use mathlib.Core.Bool.{cond}
use Prim.Native.Nat.{ℕ, ◌<◌, ◌≤◌}
use native.Mathlib.Omega.{arith}
use borrow.Author.Tests.{ne_eqb, le-ltb}
use lib.Dec.{ltb}
use Rattle.report.specs.Sample.{sign_bit, infinity, magnitude, is_nan, sign_of}
use Rattle.report.specs.declared.sample.Sign.TheVariants.{Positive, Negative}

pub highest_bit : (bits : ℕ) → 0 < magnitude bits → magnitude bits ≤ infinity → sign_of bits ≡ cond (ltb bits sign_bit) Positive Negative
unfolding sign_of is_nan
highest_bit bits h l = simp (ne_eqb (magnitude bits) 0 (λ e. omega arith), le-ltb infinity (magnitude bits) l)
