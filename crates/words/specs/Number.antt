-- A number as a word: an f64 is its bits. Every word that is a NaN's is read as the one NaN that there is, and that is written as 7ff8000000000000. Assumes nothing.
use Rattle.std.specs.Prelude.{ℕ, cond, Float}
use Rattle.std.specs.Float.{binary64}
use Rattle.std.specs.Float.Ieee.{of_bits, to_bits, is_nan}

-- the number whose bits a word is
abbrev pub from_word : ℕ → Float
from_word w = of_bits binary64 w

unfoldable pub to_word : Float → ℕ
to_word x = cond (is_nan x) 0x7ff8_0000_0000_0000 (to_bits binary64 x)
