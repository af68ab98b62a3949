-- The one NaN has the bits that it is written with. Assumes nothing.
use Rattle.std.proofs.Common.{◌≡◌, refl}
use lib.Ieee.{Float, nan, inf, fin, binary64, to_bits, is_nan}
use Rattle.words.specs.Number.{to_word}

pub one_nan : (x : Float) → to_bits binary64 x ≡ to_word x
unfolding to_word is_nan to_bits
one_nan nan = refl
one_nan (inf s) = refl
one_nan (fin s m e) = refl
